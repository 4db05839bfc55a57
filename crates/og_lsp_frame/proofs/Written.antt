-- What is written is read again.
use Rattle.std.proofs.Common.{◌≡◌, ℕ, ◌+◌, ◌-◌, ◌*◌, ◌/◌, ◌%◌, ◌^◌, ◌<◌, ◌≤◌, Bool, true, false, cond, eqb, leb, List, [], ◌∷◌, ◌++◌, length, take, drop, get_or, Option, Some, None, arith, ap, sym, ◌∙◌, refl, length-append, ◌||◌}
use Rattle.std.specs.Prelude.{codes, not}
use Rattle.std.specs.List.{prefix_len}
use Rattle.std.specs.Fmt.{decimal}
use Rattle.std.proofs.lemmas.List.{append_assoc, take_at, drop_at}
use Rattle.std.proofs.lemmas.List.Sums.{prefix_len_is, prefix_len_passes}
use Rattle.std.proofs.lemmas.List.Folds.{prefix_len-append}
use Rattle.std.proofs.lemmas.Bool.{eq-eqb, ne_eqb, cond-true, le-leb, and_parts, leb-true}
use Rattle.std.proofs.lemmas.Fmt.{decimal_by_steps, length-decimal-le}
use Rattle.og_text.specs.Lexemes.{is_digit, value_from}
use Rattle.og_lsp_frame.specs.Front.{in_line, is_space, is_blank, trimmed, number_of, length_of, length_told, first_line, Line, Whole, Message, header_from, behind_header, front, front_within, message_text}
use Rattle.og_lsp_frame.proofs.Lines.{first_is, line_len}
use Rattle.og_lsp_frame.proofs.Steps.{header_by}
use Rattle.og_lsp_frame.proofs.Fronts.{body_again}

-- ---- digits

-- one digit or more, and their value
pub record Writes (n : ℕ) (ds : List ℕ) : Type 0 where
  pub value : value_from 0 ds ≡ n
  pub digits : prefix_len is_digit ds ≡ length ds
  pub some : 0 < length ds

value_push : (n d : ℕ) (ds : List ℕ) → value_from n (ds ++ d ∷ []) ≡ 10 * value_from n ds + (d - 48)
value_push n d [] = refl
value_push n d (e ∷ ds) = value_push (10 * n + (e - 48)) d ds

digit_is : (n : ℕ) → n < 10 → is_digit (48 + n) ≡ true
digit_is n lt = rw (le-leb 48 (48 + n) (omega arith), le-leb (48 + n) 57 (omega arith)) refl

one_digit : (n : ℕ) → n < 10 → Writes n ((48 + n) ∷ [])
one_digit n lt = record {
  value = omega arith;
  digits = ap (λ (b : Bool). cond b (1 + 0) 0) (digit_is n lt);
  some = omega arith;
}

more_digits : (n : ℕ) (ds : List ℕ) → 10 ≤ n → Writes (n / 10) ds → Writes n (ds ++ ((48 + n % 10) ∷ []))
more_digits n ds le w =
    let d = 48 + n % 10 in
    let last : prefix_len is_digit (d ∷ []) ≡ 1 = ap (λ (b : Bool). cond b (1 + 0) 0) (digit_is (n % 10) (omega arith)) in
    record {
      value = omega (arith, value_push 0 d ds, w.value);
      digits = prefix_len-append is_digit ds (d ∷ [])
          ∙ cond-true (eqb (prefix_len is_digit ds) (length ds)) (length ds + prefix_len is_digit (d ∷ [])) (prefix_len is_digit ds) (eq-eqb (prefix_len is_digit ds) (length ds) w.digits)
          ∙ omega (arith, last, length-append ds (d ∷ []));
      some = omega (arith, length-append ds (d ∷ []));
    }

pub decimal_writes : (n : ℕ) → n < 2 ^ 64 → Writes n (decimal n)
decimal_writes n lt = decimal_by_steps Writes one_digit more_digits n lt

-- a byte of digits
at_digit : (ds : List ℕ) (k : ℕ) → prefix_len is_digit ds ≡ length ds → k < length ds → (48 ≤ get_or ds k 0) × (get_or ds k 0 ≤ 57)
at_digit ds k e lt =
    let passes = and_parts (leb 48 (get_or ds k 0)) (leb (get_or ds k 0) 57) (prefix_len_passes is_digit ds k 0 (omega arith)) in
    (leb-true 48 (get_or ds k 0) passes.0, leb-true (get_or ds k 0) 57 passes.1)

no_lf : (b : ℕ) → (b ≡ 10 → ⊥) → in_line b ≡ true
no_lf b ne = ap not (ne_eqb b 10 ne)

digits_in_line : (ds : List ℕ) → prefix_len is_digit ds ≡ length ds → prefix_len in_line ds ≡ length ds
digits_in_line ds e =
    prefix_len_is in_line ds (length ds) 0 (omega arith) (λ k lt. no_lf (get_or ds k 0) (λ h. omega (arith, (at_digit ds k e lt).0))) (λ h. absurd (omega arith))

-- ---- the line

-- digits and a CR
abbrev ended_digits : List ℕ → List ℕ
ended_digits ds = ds ++ 13 ∷ []

digits_len : (ds : List ℕ) → prefix_len is_digit ds ≡ length ds → prefix_len is_digit (ended_digits ds) ≡ length ds
digits_len ds e =
    prefix_len-append is_digit ds (13 ∷ [])
    ∙ cond-true (eqb (prefix_len is_digit ds) (length ds)) (length ds + prefix_len is_digit (13 ∷ [])) (prefix_len is_digit ds) (eq-eqb (prefix_len is_digit ds) (length ds) e)
    ∙ omega arith

no_space : (b : ℕ) → 48 ≤ b → is_space b ≡ false
no_space b le = rw (ne_eqb b 32 (λ h. omega arith), ne_eqb b 9 (λ h. omega arith), ne_eqb b 13 (λ h. omega arith)) refl

space_len : (ds : List ℕ) → prefix_len is_digit ds ≡ length ds → 0 < length ds → prefix_len is_space (ended_digits ds) ≡ 0
space_len [] e some = absurd (omega arith)
space_len (d ∷ ds) e some =
    ap (λ (b : Bool). cond b (1 + prefix_len is_space (ds ++ 13 ∷ [])) 0) (no_space d (at_digit (d ∷ ds) 0 e (omega arith)).0)

-- ---- a length

abbrev chosen_length : Bool → Bool → List ℕ → ℕ → Option ℕ
chosen_length none more text len = cond (none || not more) None (Some (number_of (take len text)))

-- the length that a value tells, by its parts
length_is : (value text : List ℕ) (len : ℕ) → trimmed value ≡ text → prefix_len is_digit text ≡ len → 0 < len → length (trimmed (drop len text)) ≡ 0 → length_of value ≡ Some (number_of (take len text))
length_is value text len is_text is_len some whole =
    ap (λ (t : List ℕ). chosen_length (eqb (prefix_len is_digit t) 0) (eqb (length (trimmed (drop (prefix_len is_digit t) t))) 0) t (prefix_len is_digit t)) is_text
    ∙ ap (λ (k : ℕ). chosen_length (eqb k 0) (eqb (length (trimmed (drop k text))) 0) text k) is_len
    ∙ ap (λ (b : Bool). chosen_length b (eqb (length (trimmed (drop len text))) 0) text len) (ne_eqb len 0 (λ h. omega arith))
    ∙ ap (λ (b : Bool). chosen_length false b text len) (eq-eqb (length (trimmed (drop len text))) 0 whole)

value_trimmed : (ds : List ℕ) → prefix_len is_digit ds ≡ length ds → 0 < length ds → trimmed (32 ∷ ended_digits ds) ≡ ended_digits ds
value_trimmed ds e some = ap (λ (k : ℕ). drop (1 + k) (32 ∷ ended_digits ds)) (space_len ds e some)

value_tells : (n : ℕ) (ds : List ℕ) → Writes n ds → n ≤ 2 ^ 24 → length_of (32 ∷ ended_digits ds) ≡ Some n
value_tells n ds w small =
    let back : drop (length ds) (ended_digits ds) ≡ 13 ∷ [] = drop_at ds (13 ∷ []) (length ds) refl in
    let whole : length (trimmed (drop (length ds) (ended_digits ds))) ≡ 0 = ap (λ (t : List ℕ). length (trimmed t)) back in
    let front_is : take (length ds) (ended_digits ds) ≡ ds = take_at ds (13 ∷ []) (length ds) refl in
    let number : number_of ds ≡ n = omega (arith, w.value) in
    length_is (32 ∷ ended_digits ds) (ended_digits ds) (length ds) (value_trimmed ds w.digits w.some) (digits_len ds w.digits) w.some whole
    ∙ ap (λ (t : List ℕ). Some (number_of t)) front_is ∙ ap Some number

-- ---- the field

abbrev field : List ℕ → List ℕ
field ds = codes "Content-Length: " ++ ended_digits ds

field_len : (ds : List ℕ) → length (field ds) ≡ 17 + length ds
field_len ds = omega (arith, length-append (codes "Content-Length: ") (ended_digits ds), length-append ds (13 ∷ []))

abbrev told_by : Bool → List ℕ → Option ℕ
told_by whole ds = cond (whole || not true) None (length_of (32 ∷ ended_digits ds))

field_tells : (ds : List ℕ) → length_told (field ds) ≡ length_of (32 ∷ ended_digits ds)
field_tells ds = ap (λ (b : Bool). told_by b ds) (ne_eqb 14 (length (field ds)) (λ h. omega (arith, field_len ds)))

full_push : (xs ys : List ℕ) → prefix_len in_line xs ≡ length xs → prefix_len in_line ys ≡ length ys → prefix_len in_line (xs ++ ys) ≡ length (xs ++ ys)
full_push xs ys e k =
    prefix_len-append in_line xs ys
    ∙ cond-true (eqb (prefix_len in_line xs) (length xs)) (length xs + prefix_len in_line ys) (prefix_len in_line xs) (eq-eqb (prefix_len in_line xs) (length xs) e)
    ∙ omega (arith, k, length-append xs ys)

field_in_line : (ds : List ℕ) → prefix_len is_digit ds ≡ length ds → prefix_len in_line (field ds) ≡ length (field ds)
field_in_line ds e = full_push (codes "Content-Length: ") (ended_digits ds) refl (full_push ds (13 ∷ []) (digits_in_line ds e) refl)

not_blank : (line : List ℕ) → 1 < length line → is_blank line ≡ false
not_blank line lt = rw (ne_eqb (length line) 0 (λ h. omega arith), ne_eqb (length line) 1 (λ h. omega arith)) refl

-- ---- the lines

first_of : (line rest : List ℕ) → prefix_len in_line line ≡ length line → length line ≤ 4096 → first_line (line ++ 10 ∷ rest) ≡ Line line rest
first_of line rest e small =
    let stream = line ++ 10 ∷ rest in
    let len : line_len stream ≡ length line =
    prefix_len-append in_line line (10 ∷ rest)
    ∙ cond-true (eqb (prefix_len in_line line) (length line)) (length line + prefix_len in_line (10 ∷ rest)) (prefix_len in_line line) (eq-eqb (prefix_len in_line line) (length line) e)
    ∙ omega arith in
    let whole : (line ++ 10 ∷ []) ++ rest ≡ stream = append_assoc line (10 ∷ []) rest in
    first_is stream line rest record {
      inside = omega (arith, len, length-append line (10 ∷ rest));
      small = omega (arith, len, small);
      is_line = sym (ap (λ (k : ℕ). take k stream) len ∙ take_at line (10 ∷ rest) (length line) refl);
      is_rest = sym (
          ap (λ (k : ℕ). drop (k + 1) stream) len ∙ ap (λ (z : List ℕ). drop (length line + 1) z) (sym whole) ∙ drop_at (line ++ 10 ∷ []) rest (length line + 1) (length-append line (10 ∷ []))
          );
    }

field_led : (n : ℕ) (ds rest : List ℕ) → Writes n ds → n ≤ 2 ^ 24 → length ds ≤ 20 → header_from 16 None (field ds ++ 10 ∷ rest) ≡ header_from 15 (Some n) rest
field_led n ds rest w small short =
    header_by 15 None (field ds ++ 10 ∷ rest) (Line (field ds) rest) (first_of (field ds) rest (field_in_line ds w.digits) (omega (arith, field_len ds)))
    ∙ ap (λ (b : Bool). cond b (Whole None rest) (header_from 15 (length_told (field ds)) rest)) (not_blank (field ds) (omega (arith, field_len ds)))
    ∙ ap (λ (o : Option ℕ). header_from 15 o rest) (field_tells ds ∙ value_tells n ds w small)

blank_led : (told : Option ℕ) (rest : List ℕ) → header_from 15 told (13 ∷ 10 ∷ rest) ≡ Whole told rest
blank_led told rest = header_by 14 told (13 ∷ 10 ∷ rest) (Line (13 ∷ []) rest) (first_of (13 ∷ []) rest refl (omega arith))

regroup : (head ds body rest : List ℕ) → (((head ++ ds) ++ (13 ∷ 10 ∷ 13 ∷ 10 ∷ [])) ++ body) ++ rest ≡ (head ++ (ds ++ 13 ∷ [])) ++ 10 ∷ 13 ∷ 10 ∷ (body ++ rest)
regroup head ds body rest = simp append_assoc

pub written_again : (body rest : List ℕ) → length body ≤ 2 ^ 24 → front (message_text body ++ rest) ≡ Message body rest
unfolding front front_within
written_again body rest small =
    let n = length body in
    let w = decimal_writes n (omega arith) in
    let short = length-decimal-le 20 n (omega arith) (omega arith) (omega arith) in
    ap (λ (z : List ℕ). behind_header (header_from 16 None z)) (regroup (codes "Content-Length: ") (decimal n) body rest)
    ∙ ap behind_header (field_led n (decimal n) (13 ∷ 10 ∷ (body ++ rest)) w small short)
    ∙ ap behind_header (blank_led (Some n) (body ++ rest))
    ∙ body_again n (body ++ rest) body rest refl small refl
