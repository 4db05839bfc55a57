-- What stands at the front of a stream, in words of the protocol, and that it stays.
use Rattle.std.proofs.Common.{◌≡◌, ℕ, zero, suc, ◌^◌, ◌≤◌, Bool, true, false, cond, ltb, List, [], ◌∷◌, ◌++◌, length, take, drop, Option, Some, None, arith, ap, sym, ◌∙◌, refl, subst, length-append, append_assoc}
use Rattle.std.specs.List.{flat_map, AllByRecursion}
use Rattle.std.specs.Option.{option_or}
use Rattle.std.proofs.lemmas.List.{length-take-le, take-append-drop, take_at, drop_at}
use Rattle.std.proofs.lemmas.Bool.{ltb-false, le-ltb}
use Rattle.og_lsp_frame.specs.declared.fault.FrameFault.{FrameFault}
use Rattle.og_lsp_frame.specs.declared.fault.FrameFault.TheVariants.{BodyTooLong}
use Rattle.og_lsp_frame.specs.Front.{FirstLine, NoEnd, Long, Line, Header, Unfinished, Wrong, Whole, Partial, Message, Faulty, first_line, is_blank, length_told, behind_line, header_from, behind_header, body_told, body_at, front, front_within, ended, IsField, first_told, IsMessage}
use Rattle.og_lsp_frame.proofs.Steps.{led_to, header_by}
use Rattle.og_lsp_frame.proofs.Lines.{IsFirst, is_first, first_is, are_parts, first_goes_on, long_goes_on}

-- ---- the lines of a header

pub record AreLines (told : Option ℕ) (stream : List ℕ) (length_is : Option ℕ) (rest : List ℕ) : Type 0 where
  pub fields : List (List ℕ)
  pub blank : List ℕ
  pub parts : stream ≡ flat_map ended fields ++ ended blank ++ rest
  pub are_fields : AllByRecursion IsField fields
  pub is_end : is_blank blank ≡ true
  pub is_told : length_is ≡ option_or told (first_told fields)

or_none : (told : Option ℕ) → told ≡ option_or told None
or_none None = refl
or_none (Some n) = refl

or_assoc : (a b c : Option ℕ) → option_or (option_or a b) c ≡ option_or a (option_or b c)
or_assoc None b c = refl
or_assoc (Some n) b c = refl

one_more : (told length_is : Option ℕ) (stream line behind rest : List ℕ) → IsFirst stream line behind → is_blank line ≡ false → AreLines (option_or told (length_told line)) behind length_is rest → AreLines told stream length_is rest
one_more told length_is stream line behind rest first some lines =
    let parts = are_parts stream line behind first in
    record {
      fields = line ∷ lines.fields;
      blank = lines.blank;
      parts = parts.parts ∙ ap (λ (z : List ℕ). ended line ++ z) lines.parts
          ∙ sym (append_assoc (ended line) (flat_map ended lines.fields ++ ended lines.blank) rest)
          ∙ ap (λ (z : List ℕ). z ++ rest) (sym (append_assoc (ended line) (flat_map ended lines.fields) (ended lines.blank)));
      are_fields = (record { one_line = parts.one_line; some = some }, lines.are_fields);
      is_end = lines.is_end;
      is_told = lines.is_told ∙ or_assoc told (length_told line) (first_told lines.fields);
    }

mutual_by : (lines : ℕ) (told length_is : Option ℕ) (stream rest line behind : List ℕ) (blank : Bool) → is_blank line ≡ blank → IsFirst stream line behind
    → (header_from lines (option_or told (length_told line)) behind ≡ Whole length_is rest → AreLines (option_or told (length_told line)) behind length_is rest)
    → cond blank (Whole told behind) (header_from lines (option_or told (length_told line)) behind) ≡ Whole length_is rest → AreLines told stream length_is rest
mutual_by lines told length_is stream rest line behind true e first further is =
    let parts = are_parts stream line behind first in
    let told_is : told ≡ length_is = cc in
    let rest_is : behind ≡ rest = cc in
    record {
      fields = [];
      blank = line;
      parts = parts.parts ∙ ap (λ (z : List ℕ). ended line ++ z) rest_is;
      are_fields = tt;
      is_end = e;
      is_told = sym told_is ∙ or_none told;
    }
mutual_by lines told length_is stream rest line behind false e first further is = one_more told length_is stream line behind rest first e (further is)

by_first : (lines : ℕ) (told length_is : Option ℕ) (stream rest : List ℕ) (first : FirstLine) → first_line stream ≡ first
    → ((line behind : List ℕ) → header_from lines (option_or told (length_told line)) behind ≡ Whole length_is rest → AreLines (option_or told (length_told line)) behind length_is rest)
    → behind_line (led_to lines told) first ≡ Whole length_is rest → AreLines told stream length_is rest
by_first lines told length_is stream rest NoEnd e further is = cc
by_first lines told length_is stream rest Long e further is = cc
by_first lines told length_is stream rest (Line line behind) e further is =
    mutual_by lines told length_is stream rest line behind (is_blank line) refl (is_first stream line behind e) (further line behind) is

pub lines_of : (lines : ℕ) (told length_is : Option ℕ) (stream rest : List ℕ) → header_from lines told stream ≡ Whole length_is rest → AreLines told stream length_is rest
lines_of zero told length_is stream rest is = cc
lines_of (suc lines) told length_is stream rest is =
    by_first lines told length_is stream rest (first_line stream) refl (λ line behind k. lines_of lines (option_or told (length_told line)) length_is behind rest k) is

-- ---- a body

-- the body behind a header, and what comes behind it
pub record IsBody (told : Option ℕ) (stream body rest : List ℕ) : Type 0 where
  pub parts : stream ≡ body ++ rest
  pub is_told : told ≡ Some (length body)
  pub small : length body ≤ 2 ^ 24

body_by : (len : ℕ) (stream body rest : List ℕ) (long short : Bool) → ltb (2 ^ 24) len ≡ long → ltb (length stream) len ≡ short
    → cond long (Faulty BodyTooLong) (cond short Partial (Message (take len stream) (drop len stream))) ≡ Message body rest → IsBody (Some len) stream body rest
body_by len stream body rest true short e k is = cc
body_by len stream body rest false true e k is = cc
body_by len stream body rest false false e k is =
    let body_is : take len stream ≡ body = cc in
    let rest_is : drop len stream ≡ rest = cc in
    let whole = ltb-false (length stream) len k in
    let len_is : length body ≡ len = sym (ap length body_is) ∙ length-take-le len stream whole in
    let small = ltb-false (2 ^ 24) len e in
    record {
      parts = sym (take-append-drop len stream) ∙ ap (λ (z : List ℕ). z ++ drop len stream) body_is ∙ ap (λ (z : List ℕ). body ++ z) rest_is;
      is_told = ap Some (sym len_is);
      small = omega (arith, len_is);
    }

is_body : (told : Option ℕ) (stream body rest : List ℕ) → body_told told stream ≡ Message body rest → IsBody told stream body rest
is_body None stream body rest is = cc
is_body (Some len) stream body rest is = body_by len stream body rest (ltb (2 ^ 24) len) (ltb (length stream) len) refl refl is

body_of : (header : Header) (body rest : List ℕ) → behind_header header ≡ Message body rest → (told : Option ℕ) × (behind : List ℕ) × (header ≡ Whole told behind) × IsBody told behind body rest
body_of Unfinished body rest is = cc
body_of (Wrong fault) body rest is = cc
body_of (Whole told behind) body rest is = (told, behind, refl, is_body told behind body rest is)

pub is_message : (stream body rest : List ℕ) → front stream ≡ Message body rest → IsMessage stream body rest
unfolding front front_within
is_message stream body rest is =
    let (told, behind, header, found) = body_of (header_from 16 None stream) body rest is in
    let lines = lines_of 16 None told stream behind header in
    record {
      fields = lines.fields;
      blank = lines.blank;
      parts = lines.parts ∙ ap (λ (z : List ℕ). flat_map ended lines.fields ++ ended lines.blank ++ z) found.parts ∙ sym (append_assoc (flat_map ended lines.fields ++ ended lines.blank) body rest);
      are_fields = lines.are_fields;
      is_end = lines.is_end;
      counted = sym lines.is_told ∙ found.is_told;
    }

-- ---- more comes

-- what a header is of a longer stream
abbrev longer : List ℕ → Header → Header
longer more Unfinished = Unfinished
longer more (Wrong fault) = Wrong fault
longer more (Whole told rest) = Whole told (rest ++ more)

-- it has come, or is wrong
abbrev IsSettled : Header → Type 0
IsSettled Unfinished = ⊥
IsSettled header = Unit {0}

blank_on : (lines : ℕ) (told : Option ℕ) (line behind more : List ℕ) (blank : Bool)
    → (IsSettled (header_from lines (option_or told (length_told line)) behind) → header_from lines (option_or told (length_told line)) (behind ++ more) ≡ longer more (header_from lines (option_or told (length_told line)) behind))
    → IsSettled (cond blank (Whole told behind) (header_from lines (option_or told (length_told line)) behind))
    → cond blank (Whole told (behind ++ more)) (header_from lines (option_or told (length_told line)) (behind ++ more)) ≡ longer more (cond blank (Whole told behind) (header_from lines (option_or told (length_told line)) behind))
blank_on lines told line behind more true further settled = refl
blank_on lines told line behind more false further settled = further settled

first_on : (lines : ℕ) (told : Option ℕ) (stream more : List ℕ) (first : FirstLine) → first_line stream ≡ first
    → ((line behind : List ℕ) → IsSettled (header_from lines (option_or told (length_told line)) behind) → header_from lines (option_or told (length_told line)) (behind ++ more) ≡ longer more (header_from lines (option_or told (length_told line)) behind))
    → IsSettled (behind_line (led_to lines told) first) → header_from (suc lines) told (stream ++ more) ≡ longer more (behind_line (led_to lines told) first)
first_on lines told stream more NoEnd e further settled = absurd settled
first_on lines told stream more Long e further settled = header_by lines told (stream ++ more) Long (long_goes_on stream more e)
first_on lines told stream more (Line line behind) e further settled =
    header_by lines told (stream ++ more) (Line line (behind ++ more)) (first_is (stream ++ more) line (behind ++ more) (first_goes_on stream line behind more (is_first stream line behind e)))
    ∙ blank_on lines told line behind more (is_blank line) (further line behind) settled

header_on : (lines : ℕ) (told : Option ℕ) (stream more : List ℕ) → IsSettled (header_from lines told stream) → header_from lines told (stream ++ more) ≡ longer more (header_from lines told stream)
header_on zero told stream more settled = refl
header_on (suc lines) told stream more settled =
    first_on lines told stream more (first_line stream) refl (λ line behind k. header_on lines (option_or told (length_told line)) behind more k) settled

pub body_again : (len : ℕ) (stream body rest : List ℕ) → len ≡ length body → length body ≤ 2 ^ 24 → stream ≡ body ++ rest → body_told (Some len) stream ≡ Message body rest
body_again len stream body rest len_is small parts =
    let front_is : take len stream ≡ body = ap (take len) parts ∙ take_at body rest len (sym len_is) in
    let back_is : drop len stream ≡ rest = ap (drop len) parts ∙ drop_at body rest len (sym len_is) in
    let not_long = le-ltb (2 ^ 24) len (omega (arith, len_is)) in
    let whole = le-ltb (length stream) len (omega (arith, len_is, ap length parts, length-append body rest)) in
    ap (λ (b : Bool). cond b (Faulty BodyTooLong) (body_at len stream)) not_long
    ∙ ap (λ (b : Bool). cond b Partial (Message (take len stream) (drop len stream))) whole
    ∙ ap (λ (z : List ℕ). Message z (drop len stream)) front_is
    ∙ ap (λ (z : List ℕ). Message body z) back_is

body_on : (told : Option ℕ) (stream body rest more : List ℕ) → body_told told stream ≡ Message body rest → body_told told (stream ++ more) ≡ Message body (rest ++ more)
body_on None stream body rest more is = cc
body_on (Some len) stream body rest more is =
    let found = is_body (Some len) stream body rest is in
    let len_is : len ≡ length body = cc in
    body_again len (stream ++ more) body (rest ++ more) len_is found.small (ap (λ (z : List ℕ). z ++ more) found.parts ∙ append_assoc body rest more)

fault_by : (len : ℕ) (stream more : List ℕ) (fault : FrameFault) (long short : Bool) → ltb (2 ^ 24) len ≡ long
    → cond long (Faulty BodyTooLong) (cond short Partial (Message (take len stream) (drop len stream))) ≡ Faulty fault → body_told (Some len) (stream ++ more) ≡ Faulty fault
fault_by len stream more fault true short e is = ap (λ (b : Bool). cond b (Faulty BodyTooLong) (body_at len (stream ++ more))) e ∙ is
fault_by len stream more fault false true e is = cc
fault_by len stream more fault false false e is = cc

fault_of_body : (told : Option ℕ) (stream more : List ℕ) (fault : FrameFault) → body_told told stream ≡ Faulty fault → body_told told (stream ++ more) ≡ Faulty fault
fault_of_body None stream more fault is = is
fault_of_body (Some len) stream more fault is = fault_by len stream more fault (ltb (2 ^ 24) len) (ltb (length stream) len) refl is

settled_by : (header other : Header) → header ≡ other → IsSettled other → IsSettled header
settled_by header other e settled = subst IsSettled (sym e) settled

pub message_on : (stream body rest more : List ℕ) → front stream ≡ Message body rest → front (stream ++ more) ≡ Message body (rest ++ more)
unfolding front front_within
message_on stream body rest more is =
    let (told, behind, header, found) = body_of (header_from 16 None stream) body rest is in
    let here : body_told told behind ≡ Message body rest = sym (ap behind_header header) ∙ is in
    ap behind_header (header_on 16 None stream more (settled_by (header_from 16 None stream) (Whole told behind) header tt))
    ∙ ap (λ (h : Header). behind_header (longer more h)) header
    ∙ body_on told behind body rest more here

fault_of : (stream more : List ℕ) (fault : FrameFault) (header : Header) → header_from 16 None stream ≡ header → behind_header header ≡ Faulty fault → behind_header (header_from 16 None (stream ++ more)) ≡ Faulty fault
fault_of stream more fault Unfinished e is = cc
fault_of stream more fault (Wrong other) e is =
    ap behind_header (header_on 16 None stream more (settled_by (header_from 16 None stream) (Wrong other) e tt)) ∙ ap (λ (h : Header). behind_header (longer more h)) e ∙ is
fault_of stream more fault (Whole told rest) e is =
    ap behind_header (header_on 16 None stream more (settled_by (header_from 16 None stream) (Whole told rest) e tt)) ∙ ap (λ (h : Header). behind_header (longer more h)) e ∙ fault_of_body told rest more fault is

pub fault_on : (stream more : List ℕ) (fault : FrameFault) → front stream ≡ Faulty fault → front (stream ++ more) ≡ Faulty fault
unfolding front front_within
fault_on stream more fault is = fault_of stream more fault (header_from 16 None stream) refl is
