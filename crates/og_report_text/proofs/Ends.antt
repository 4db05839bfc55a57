-- How a report ends that says that the outline is unblocked.
use Rattle.std.proofs.Common.{◌≡◌, ◌⊎◌, inl, inr, ℕ, List, [], ◌∷◌, ◌++◌, Bool, true, false, refl, sym, ap, subst, ◌∙◌, codes, arith}
use Rattle.std.proofs.lemmas.List.{append_assoc, append_cancel_right}
use Rattle.json.specs.Print.{quoted}
use Rattle.serde_json.proofs.OnLiterals.{serde_json_on_literals}
use Rattle.serde_json.specs.Data.{Data, boolean, array, object, Items, no_items, item, Members, member, no_members}
use Rattle.serde_json.specs.Written.{compact_text, items_text, members_text, comma_if}
use Rattle.og_report_text.specs.Yes.{EndsWith, SaysUnblocked}

-- ---- ends of texts

pub ends_with : (a e : List ℕ) → EndsWith e (a ++ e)
ends_with a e = (a, refl)

pub ends_after : (a e t : List ℕ) → EndsWith e t → EndsWith e (a ++ t)
ends_after a e t h = (a ++ h.0, ap (λ (x : List ℕ). a ++ x) h.1 ∙ sym (append_assoc a h.0 e))

pub ends_then : (e t s : List ℕ) → EndsWith e t → EndsWith (e ++ s) (t ++ s)
ends_then e t s h = (h.0, ap (λ (x : List ℕ). x ++ s) h.1 ∙ append_assoc h.0 e s)

pub ends_less : (a e t : List ℕ) → EndsWith (a ++ e) t → EndsWith e t
ends_less a e t h = (h.0 ++ a, h.1 ∙ sym (append_assoc h.0 a e))

pub ends_of_end : (e s t : List ℕ) → EndsWith e s → EndsWith s t → EndsWith e t
ends_of_end e s t p q = (q.0 ++ p.0, q.1 ∙ ap (λ (x : List ℕ). q.0 ++ x) p.1 ∙ sym (append_assoc q.0 p.0 e))

pub ends_before : (e t s : List ℕ) → EndsWith (e ++ s) (t ++ s) → EndsWith e t
ends_before e t s h = (h.0, append_cancel_right t (h.0 ++ e) s (h.1 ∙ sym (append_assoc h.0 e s)))

abbrev last_of : ℕ → List ℕ → ℕ
last_of d [] = d
last_of d (x ∷ xs) = last_of x xs

last_after : (d x : ℕ) (s : List ℕ) → last_of d (s ++ x ∷ []) ≡ x
last_after d x [] = refl
last_after d x (y ∷ s) = last_after y x s

-- what stands before the same end is the same
pub same_before : (x y : ℕ) (s t : List ℕ) → EndsWith (x ∷ s) t → EndsWith (y ∷ s) t → x ≡ y
same_before x y s t p q =
    let both = append_assoc p.0 (x ∷ []) s ∙ sym p.1 ∙ q.1 ∙ sym (append_assoc q.0 (y ∷ []) s) in
    let cut = append_cancel_right (p.0 ++ x ∷ []) (q.0 ++ y ∷ []) s both in
    sym (last_after 0 x p.0) ∙ ap (last_of 0) cut ∙ last_after 0 y q.0

-- ---- JSON

pub ends_member : (e : List ℕ) (later : Bool) (k : List ℕ) (d : Data) (ms : Members) → EndsWith e (members_text true ms) → EndsWith e (members_text later (member k d ms))
ends_member e later k d ms h =
    ends_after (comma_if later) e _ (ends_after (quoted k) e _ (ends_after (58 ∷ []) e _ (ends_after (compact_text d) e _ h)))

pub members_end : (later : Bool) (ms : Members) → EndsWith (125 ∷ []) (members_text later ms)
members_end later no_members = ends_with [] (125 ∷ [])
members_end later (member k d ms) = ends_member (125 ∷ []) later k d ms (members_end true ms)

-- no item, or a text that ends with a brace before the bracket
abbrev pub EndsWithBrace : Items → Type 0
EndsWithBrace ds = (ds ≡ no_items) ⊎ ((later : Bool) → EndsWith (125 ∷ 93 ∷ []) (items_text later ds))

object_ends : (ms : Members) → EndsWith (125 ∷ []) (compact_text (object ms))
object_ends ms = ends_after (123 ∷ []) (125 ∷ []) _ (members_end false ms)

object_then : (ms : Members) (ds : Items) → EndsWithBrace ds → (later : Bool) → EndsWith (125 ∷ 93 ∷ []) (items_text later (item (object ms) ds))
object_then ms ds (inl none) later =
    ends_after (comma_if later) (125 ∷ 93 ∷ []) _ (subst (λ (x : Items). EndsWith (125 ∷ 93 ∷ []) (compact_text (object ms) ++ items_text true x)) (sym none)
    (ends_then (125 ∷ []) _ (93 ∷ []) (object_ends ms)))
object_then ms ds (inr more) later = ends_after (comma_if later) (125 ∷ 93 ∷ []) _ (ends_after (compact_text (object ms)) (125 ∷ 93 ∷ []) _ (more true))

-- an object more in front
pub braced : (ms : Members) (ds : Items) → EndsWithBrace ds → EndsWithBrace (item (object ms) ds)
braced ms ds h = inr (object_then ms ds h)

abbrev pub last_members : Bool → Items → Members
last_members b ds = member (codes "unblocked") (boolean b) (member (codes "unproved") (array ds) no_members)

brace_at_end : (b : Bool) (ds : Items) → EndsWith (125 ∷ 93 ∷ []) (items_text false ds) → EndsWith (125 ∷ 93 ∷ 125 ∷ []) (members_text true (last_members b ds))
brace_at_end b ds h =
    ends_member (125 ∷ 93 ∷ 125 ∷ []) true (codes "unblocked") (boolean b) (member (codes "unproved") (array ds) no_members)
    (ends_after (comma_if true) _ _ (ends_after (quoted (codes "unproved")) _ _ (ends_after (58 ∷ 91 ∷ []) _ _ (ends_then (125 ∷ 93 ∷ []) (items_text false ds) (125 ∷ []) h))))

json_answers : (b : Bool) (ds : Items) (t : List ℕ) → EndsWithBrace ds → EndsWith (members_text true (last_members b ds)) t
    → EndsWith (codes "\"unblocked\":true,\"unproved\":[]}") t → b ≡ true
unfolding serde_json_on_literals
json_answers true ds t h p q = refl
json_answers false ds t (inl none) p q =
    let chosen_ones = subst (λ (x : Items). EndsWith (members_text true (last_members false x)) t) none p in
    absurd (omega (
      arith,
      same_before 115 117 (codes "e,\"unproved\":[]}") t (ends_less (codes ",\"unblocked\":fal") (115 ∷ codes "e,\"unproved\":[]}") t chosen_ones)
          (ends_less (codes "\"unblocked\":tr") (117 ∷ codes "e,\"unproved\":[]}") t q),
    ))
json_answers false ds t (inr more) p q =
    absurd (omega (
      arith,
      same_before 125 91 (93 ∷ 125 ∷ []) t (ends_of_end (125 ∷ 93 ∷ 125 ∷ []) _ t (brace_at_end false ds (more false)) p)
          (ends_less (codes "\"unblocked\":true,\"unproved\":") (91 ∷ 93 ∷ 125 ∷ []) t q),
    ))

-- a text that ends with these members, before its LF
pub members_answer : (b : Bool) (ds : Items) (t : List ℕ) → EndsWithBrace ds → EndsWith (members_text true (last_members b ds)) t → SaysUnblocked true (t ++ 10 ∷ []) → b ≡ true
members_answer b ds t brace ends h =
    json_answers b ds t brace ends (ends_before (codes "\"unblocked\":true,\"unproved\":[]}") t (10 ∷ []) h)
