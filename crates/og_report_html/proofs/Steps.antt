-- One byte of the source, one condition and one process after another.
use Rattle.std.proofs.Common.{◌≡◌, ◌<◌, ◌≤◌, ℕ, suc, ◌+◌, ◌-◌, ◌==◌, List, [], ◌∷◌, ◌++◌, drop, Bool, true, false, Option, Some, None, Vec, refl, ap, ap₂, sym, ◌∙◌, append_assoc, arith}
use Rattle.std.specs.Global.{Global}
use Rattle.std.specs.Ordering.{nat_cmp}
use Rattle.std.specs.Cmp.Lexicographic.{slice_cmp}
use Rattle.std.specs.BTreeMap.{BTreeMap, is_at}
use Rattle.std.specs.Map.{lookup}
use Rattle.std.specs.Prelude.{slice_get, is_some, if◌then◌else◌, Result, Ok, Err, OnOk}
use Rattle.std.specs.List.{list_any}
use Rattle.std.specs.Result.{is_ok}
use Rattle.og_cert_read.specs.Firsts.{found}
use Rattle.og_typed.specs.Syntax.{Program}
use Rattle.og_report_text.specs.Origins.{Rows}
use Rattle.og_report_prove.specs.Effects.{after_diagnosis}
use Rattle.og_report_prove.specs.declared.diagnosis.Diagnosis.{Diagnosis}
use Rattle.og_report_prove.proofs.Effects.{told_same}
use Rattle.og_report_prove.proofs.Lists.{dropped}
use Rattle.og_report_findings.specs.Entries.{Entry}
use Rattle.og_report_html.specs.Articles.{article, beneath_at, bounds_text, links_text, printed, target_at, article_of, article_text, articles_text}
use Rattle.og_report_html.specs.Conjuncts.{Claim}
use Rattle.og_report_html.specs.Edges.{around, claim_edges, false_by, false_edges, is_within, number_if, numbers_within, edges_from}
use Rattle.og_report_html.specs.Findings.{finding_of, is_found}
use Rattle.og_report_html.specs.Numbers.{number_where, number_links}
use Rattle.og_report_html.specs.Source.{next, next_spot, line_start, edge_here, later, byte_text, place_text, source_from}
use Rattle.og_report_html.specs.Table.{disturbance_of, disturbances_from, each_text}
use Rattle.og_report_html.specs.declared.edge.Boundary.{Boundary}
use Rattle.og_report_html.specs.declared.edge.Edge.TheVariants as edge
use Rattle.og_report_html.specs.declared.finding.Finding.{Finding}
use Rattle.og_text.specs.declared.place.Span.{Span}
use Rattle.og_report_html.specs.declared.marks.Mark.{Mark}
use Rattle.og_report_html.specs.declared.mode.Spot.{Spot}
use Rattle.og_report_html.specs.declared.table.Disturbance.{Disturbance}
use Rattle.og_report_html.specs.declared.target.Target.{Target}

-- ---- the whole

-- what a call adds where it succeeds
pub on_ok : {X E : Type 0} (r : Result X E) (new a b : List ℕ) → new ≡ (if is_ok r then a else b) → OnOk r (new ≡ a)
on_ok (Ok x) new a b h = h
on_ok (Err e) new a b h = tt

-- a text more before the last one
pub followed : (old mid new a tail : List ℕ) → mid ≡ old ++ a → new ≡ mid ++ tail → new ≡ old ++ (a ++ tail)
followed old mid new a tail e h = h ∙ ap (λ (l : List ℕ). l ++ tail) e ∙ append_assoc old a tail

-- ---- the source

pub byte_goes : (utf8 : Bool) (marks : ℕ → Option Mark) (source : List ℕ) (at b : ℕ) (spot after : Spot) (m : Option Mark) (marked : Bool) (es rest : List Boundary) (t0 t1 t2 t3 whole : List ℕ)
    → slice_get source at ≡ Some b → m ≡ marks at → marked ≡ is_some m → after ≡ next_spot spot marked b → rest ≡ later at es
    → t1 ≡ t0 ++ line_start spot.first spot.line
    → t2 ≡ t1 ++ edge_here at es
    → t3 ≡ t2 ++ byte_text utf8 m spot.mode after.mode b
    → t0 ++ source_from utf8 marks at spot es (drop at source) ≡ whole
    → t3 ++ source_from utf8 marks (at + 1) after rest (drop (at + 1) source) ≡ whole
byte_goes utf8 marks source at b spot after m marked es rest t0 t1 t2 t3 whole is same told moved behind numbered edged put so_far =
    let onward = λ (k : Option Mark). source_from utf8 marks (at + 1) (next_spot spot (is_some k) b) (later at es) (drop (at + 1) source) in
    let one = λ (k : Option Mark). place_text utf8 k (edge_here at es) spot (next spot.mode (is_some k) b) b in
    let where_next : after ≡ next_spot spot (is_some m) b = moved ∙ ap (λ (k : Bool). next_spot spot k b) told in
    let all : t3 ≡ t0 ++ one m =
    followed t0 t1 t3 (line_start spot.first spot.line) _ numbered
    (followed t1 t2 t3 (edge_here at es) _ edged (put ∙ ap (λ (k : Spot). t2 ++ byte_text utf8 m spot.mode k.mode b) where_next)) in
    ap₂ (λ (k : Spot) (l : List Boundary). t3 ++ source_from utf8 marks (at + 1) k l (drop (at + 1) source)) where_next behind
    ∙ ap (λ (t : List ℕ). t ++ onward m) all
    ∙ append_assoc t0 (one m) (onward m)
    ∙ ap (λ (k : Option Mark). t0 ++ (one k ++ onward k)) same
    ∙ ap (λ (l : List ℕ). t0 ++ source_from utf8 marks at spot es l) (sym (dropped source at b is))
    ∙ so_far

one_line : (ends : Bool) (line : ℕ) → (if ends then line + 1 else line) ≤ line + 1
one_line true line = omega arith
one_line false line = omega arith

pub line_goes : (spot after : Spot) (marked : Bool) (b at : ℕ) → after ≡ next_spot spot marked b → spot.line ≤ at + 1 → after.line ≤ at + 1 + 1
line_goes spot after marked b at moved low =
    let one = one_line (b == 10) spot.line in
    let line = ap (λ (k : Spot). k.line) moved in
    omega (arith, one, line, low)

-- only the marks count
pub source_same : (utf8 : Bool) (f g : ℕ → Option Mark) → ((p : ℕ) → f p ≡ g p) → (at : ℕ) (spot : Spot) (es : List Boundary) (source : List ℕ)
    → source_from utf8 f at spot es source ≡ source_from utf8 g at spot es source
source_same utf8 f g same at spot es [] = refl
source_same utf8 f g same at spot es (b ∷ bs) =
    ap (λ (k : Option Mark). place_text utf8 k (edge_here at es) spot (next spot.mode (is_some k) b) b ++ source_from utf8 f (at + 1) (next_spot spot (is_some k) b) (later at es) bs) (same at)
    ∙ ap (λ (l : List ℕ). place_text utf8 (g at) (edge_here at es) spot (next spot.mode (is_some (g at)) b) b ++ l) (source_same utf8 f g same (at + 1) (next_spot spot (is_some (g at)) b) (later at es) bs)

pub edges_same : (source : List ℕ) (rows : Rows) (f g : ℕ → Option Mark) (ts : List Diagnosis) → ((p : ℕ) → f p ≡ g p) → (all : List Span) (cs : List Claim)
    → edges_from source rows f ts all cs ≡ edges_from source rows g ts all cs
edges_same source rows f g ts same all [] = refl
edges_same source rows f g ts same all (c ∷ cs) =
    ap₂ (λ (m : Option Mark) (l : List Boundary). claim_edges source all c (false_by rows c.conjuncts ts m) ++ l) (same c.at) (edges_same source rows f g ts same all cs)

-- ---- what begins and ends within assertions

pub false_go : (spans : List Span) (ks : List ℕ) (i k : ℕ) (l0 l1 whole : List Boundary) → slice_get ks i ≡ Some k
    → l1 ≡ l0 ++ around edge.False edge.FalseEnd (slice_get spans k)
    → l0 ++ false_edges spans (drop i ks) ≡ whole → l1 ++ false_edges spans (drop (i + 1) ks) ≡ whole
false_go spans ks i k l0 l1 whole is put so_far =
    let rest = false_edges spans (drop (i + 1) ks) in
    let one = around edge.False edge.FalseEnd (slice_get spans k) in
    ap (λ (l : List Boundary). l ++ rest) put
    ∙ append_assoc l0 one rest
    ∙ ap (λ (l : List ℕ). l0 ++ false_edges spans l) (sym (dropped ks i k is))
    ∙ so_far

pub within_go : (places : List (Option ℕ)) (spans : List Span) (i : ℕ) (s : Span) (b : Bool) (l0 l1 whole : List ℕ) → slice_get spans i ≡ Some s
    → b ≡ list_any (is_within s) places → l1 ≡ l0 ++ number_if b i
    → l0 ++ numbers_within places i (drop i spans) ≡ whole → l1 ++ numbers_within places (i + 1) (drop (i + 1) spans) ≡ whole
within_go places spans i s b l0 l1 whole is told put so_far =
    let rest = numbers_within places (i + 1) (drop (i + 1) spans) in
    ap (λ (l : List ℕ). l ++ rest) put
    ∙ append_assoc l0 (number_if b i) rest
    ∙ ap (λ (k : Bool). l0 ++ (number_if k i ++ rest)) told
    ∙ ap (λ (l : List Span). l0 ++ numbers_within places i l) (sym (dropped spans i s is))
    ∙ so_far

pub edges_go : (source : List ℕ) (rows : Rows) (marks : ℕ → Option Mark) (ts : List Diagnosis) (all : List Span) (cs : List Claim) (i : ℕ) (c : Claim) (m : Option Mark) (ks : List ℕ) (l0 l1 whole : List Boundary)
    → slice_get cs i ≡ Some c → m ≡ marks c.at → ks ≡ false_by rows c.conjuncts ts m
    → l1 ≡ l0 ++ claim_edges source all c ks
    → l0 ++ edges_from source rows marks ts all (drop i cs) ≡ whole → l1 ++ edges_from source rows marks ts all (drop (i + 1) cs) ≡ whole
edges_go source rows marks ts all cs i c m ks l0 l1 whole is told which put so_far =
    let rest = edges_from source rows marks ts all (drop (i + 1) cs) in
    ap (λ (l : List Boundary). l ++ rest) put
    ∙ append_assoc l0 (claim_edges source all c ks) rest
    ∙ ap (λ (k : List ℕ). l0 ++ (claim_edges source all c k ++ rest)) (which ∙ ap (false_by rows c.conjuncts ts) told)
    ∙ ap (λ (l : List Claim). l0 ++ edges_from source rows marks ts all l) (sym (dropped cs i c is))
    ∙ so_far

append_none : (xs : List ℕ) → xs ++ [] ≡ xs
append_none [] = refl
append_none (x ∷ xs) = ap (λ ys. x ∷ ys) (append_none xs)

-- ---- the blocks, with the effects that are known

module _ (o : Program) (names : List (List ℕ)) (source : List ℕ) (rows : Rows) (utf8 : Bool) (beneath : List (List ℕ)) where
  printed_same : (f g : List ℕ → Option ℕ) (e : Entry) → ((x : List ℕ) → f x ≡ g x) → printed o names source rows f e ≡ printed o names source rows g e
  printed_same f g e h = ap (λ (p : List ℕ). p ++ bounds_text o e.diagnosis e.run) (told_same names source rows f g e.number e.condition (Some 0) e.diagnosis h)

  article_same : (f g : List ℕ → Option ℕ) (e : Entry) (k : Target) (found : Option Finding) → ((x : List ℕ) → f x ≡ g x)
      → article_of o names source rows utf8 beneath f e k found ≡ article_of o names source rows utf8 beneath g e k found
  article_same f g e k None h = refl
  article_same f g e k (Some finding) h =
      ap (λ (p : List ℕ). article utf8 e.number finding p (beneath_at beneath (e.number - 1)) (links_text source rows e.condition e.diagnosis k)) (printed_same f g e h)

  articles_same : (f g : List ℕ → Option ℕ) (es : List Entry) (gs : List Target) → ((x : List ℕ) → f x ≡ g x)
      → articles_text o names source rows utf8 beneath f es gs ≡ articles_text o names source rows utf8 beneath g es gs
  articles_same f g [] gs h = refl
  articles_same f g (e ∷ es) gs h =
      ap₂ (λ (a b : List ℕ). a ++ b) (article_same f g e (target_at gs e) (finding_of e.diagnosis) h)
      (articles_same (λ x. after_diagnosis names source rows e.diagnosis x e.number (f x)) (λ x. after_diagnosis names source rows e.diagnosis x e.number (g x)) es gs
      (λ x. ap (after_diagnosis names source rows e.diagnosis x e.number) (h x)))

  pub articles_begin : (before text : List ℕ) (firsts : BTreeMap (Vec ℕ Global) ℕ) (es : List Entry) (gs : List Target) → text ≡ before → firsts.entries ≡ []
      → text ++ articles_text o names source rows utf8 beneath (λ x. found x firsts) es gs ≡ before ++ articles_text o names source rows utf8 beneath (λ (x : List ℕ). None) es gs
  articles_begin before text firsts es gs same none =
      ap₂ (λ (a b : List ℕ). a ++ b) same
      (articles_same (λ x. found x firsts) (λ (x : List ℕ). None) es gs (λ x. ap (lookup (is_at (λ k. slice_cmp nat_cmp x k.items))) none))

  pub articles_go : (t0 t1 whole : List ℕ) (old new : BTreeMap (Vec ℕ Global) ℕ) (i : ℕ) (es : List Entry) (gs : List Target) (e : Entry)
      → slice_get es i ≡ Some e
      → t1 ≡ t0 ++ article_text o names source rows utf8 beneath (λ x. found x old) e (target_at gs e)
      → ((x : List ℕ) → found x new ≡ after_diagnosis names source rows e.diagnosis x e.number (found x old))
      → t0 ++ articles_text o names source rows utf8 beneath (λ x. found x old) (drop i es) gs ≡ whole
      → t1 ++ articles_text o names source rows utf8 beneath (λ x. found x new) (drop (i + 1) es) gs ≡ whole
  articles_go t0 t1 whole old new i es gs e is put noted so_far =
      let later = articles_text o names source rows utf8 beneath (λ x. found x new) (drop (i + 1) es) gs in
      let one = article_text o names source rows utf8 beneath (λ x. found x old) e (target_at gs e) in
      ap (λ (t : List ℕ). t ++ later) put
      ∙ append_assoc t0 one later
      ∙ ap (λ (l : List ℕ). t0 ++ (one ++ l)) (articles_same (λ x. found x new) (λ x. after_diagnosis names source rows e.diagnosis x e.number (found x old)) (drop (i + 1) es) gs noted)
      ∙ ap (λ (l : List Entry). t0 ++ articles_text o names source rows utf8 beneath (λ x. found x old) l gs) (sym (dropped es i e is))
      ∙ so_far

  pub articles_end : (text whole : List ℕ) (firsts : BTreeMap (Vec ℕ Global) ℕ) (i : ℕ) (es : List Entry) (gs : List Target) → drop i es ≡ []
      → text ++ articles_text o names source rows utf8 beneath (λ x. found x firsts) (drop i es) gs ≡ whole → text ≡ whole
  articles_end text whole firsts i es gs none so_far =
      sym (append_none text) ∙ ap (λ (l : List Entry). text ++ articles_text o names source rows utf8 beneath (λ x. found x firsts) l gs) (sym none) ∙ so_far

-- ---- the numbers

pub number_goes : (f : Finding) (i : ℕ) (ts : List Diagnosis) (t : Diagnosis) (t0 t1 whole : List ℕ) → slice_get ts i ≡ Some t
    → t1 ≡ t0 ++ number_where f (i + 1) t → t0 ++ number_links f (i + 1) (drop i ts) ≡ whole → t1 ++ number_links f (i + 1 + 1) (drop (i + 1) ts) ≡ whole
number_goes f i ts t t0 t1 whole is put so_far =
    let rest = number_links f (i + 1 + 1) (drop (i + 1) ts) in
    ap (λ (l : List ℕ). l ++ rest) put
    ∙ append_assoc t0 (number_where f (i + 1) t) rest
    ∙ ap (λ (l : List Diagnosis). t0 ++ number_links f (i + 1) l) (sym (dropped ts i t is))
    ∙ so_far

-- ---- the table

pub clash_goes : (f : Finding) (i : ℕ) (ts : List Diagnosis) (gs : List Target) (t : Diagnosis) (g : Target) (l0 l1 whole : List Disturbance) → slice_get ts i ≡ Some t → slice_get gs i ≡ Some g
    → l1 ≡ l0 ++ disturbance_of (is_found f t) (i + 1) g.interference
    → l0 ++ disturbances_from f (i + 1) (drop i ts) (drop i gs) ≡ whole
    → l1 ++ disturbances_from f (i + 1 + 1) (drop (i + 1) ts) (drop (i + 1) gs) ≡ whole
clash_goes f i ts gs t g l0 l1 whole t_is g_is put so_far =
    let rest = disturbances_from f (i + 1 + 1) (drop (i + 1) ts) (drop (i + 1) gs) in
    ap (λ (l : List Disturbance). l ++ rest) put
    ∙ append_assoc l0 (disturbance_of (is_found f t) (i + 1) g.interference) rest
    ∙ ap₂ (λ (k : List Diagnosis) (l : List Target). l0 ++ disturbances_from f (i + 1) k l) (sym (dropped ts i t t_is)) (sym (dropped gs i g g_is))
    ∙ so_far

-- one process more
pub each_goes : (of : ℕ → List ℕ) (p count : ℕ) (t0 t1 whole : List ℕ) → p < count → t1 ≡ t0 ++ of p
    → t0 ++ each_text of p (count - p) ≡ whole → t1 ++ each_text of (p + 1) (count - (p + 1)) ≡ whole
each_goes of p count t0 t1 whole within put so_far =
    let left : count - p ≡ suc (count - (p + 1)) = omega (arith, within) in
    let rest = each_text of (p + 1) (count - (p + 1)) in
    ap (λ (l : List ℕ). l ++ rest) put
    ∙ append_assoc t0 (of p) rest
    ∙ ap (λ (k : ℕ). t0 ++ each_text of p k) (sym left)
    ∙ so_far

none_after : (xs : List ℕ) → xs ++ [] ≡ xs
none_after [] = refl
none_after (x ∷ xs) = ap (λ ys. x ∷ ys) (none_after xs)

pub each_ends : (of : ℕ → List ℕ) (p count : ℕ) (text whole : List ℕ) → count ≤ p → text ++ each_text of p (count - p) ≡ whole → text ≡ whole
each_ends of p count text whole past so_far =
    let left : count - p ≡ 0 = omega (arith, past) in
    sym (none_after text) ∙ ap (λ (k : ℕ). text ++ each_text of p k) (sym left) ∙ so_far
