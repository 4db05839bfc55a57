-- A file's text in version 2, as far as it is written.
use Rattle.std.proofs.Common.{◌≡◌, ℕ, List, [], ◌∷◌, ◌++◌, refl, ap, sym, ◌∙◌, Vec}
use Rattle.std.specs.Global.{Global}
use Rattle.std.specs.BTreeMap.{BTreeMap, is_at}
use Rattle.std.specs.Map.{lookup}
use Rattle.std.specs.Ordering.{nat_cmp}
use Rattle.std.specs.Cmp.Lexicographic.{slice_cmp}
use Rattle.og_cert_text.specs.Tree.{Cert}
use Rattle.og_cert_text.specs.Lines.{ForCondition}
use Rattle.og_cert_text.specs.Files.{Entries}
use Rattle.og_cert_text.specs.Rising.{above}
use Rattle.og_cert_text.specs.Text.{Two, version_text}
use Rattle.og_cert_text.specs.Listing.{listed_lines, listing_lines, lines_text}
use Rattle.og_cert_text.proofs.Writing.{lines_both, one_more}
use Rattle.og_cert_read.specs.Shared.{cert_text, first_with, listed_as, listing_after, shared_text}
use Rattle.og_cert_read.specs.Firsts.{found, or_this}
use Rattle.og_cert_read.proofs.Firsts.{first_end}

abbrev pub past_text : Entries → Entries → List ℕ
past_text done es = lines_text (listing_lines (listing_after done es))

-- some entries are written, with the map of their first numbers, and the rest makes the whole text
pub record IsSoFar (text : List ℕ) (firsts : BTreeMap (Vec ℕ Global) ℕ) (last : ℕ) (es : Entries) : Type 0 where
  pub done : Entries
  pub known : (t : List ℕ) → found t firsts ≡ first_with t done
  pub whole : text ++ past_text done (above last es) ≡ shared_text es

pub so_far_begins : (text : List ℕ) (firsts : BTreeMap (Vec ℕ Global) ℕ) (es : Entries) → text ≡ version_text Two → firsts.entries ≡ [] → above 0 es ≡ es → IsSoFar text firsts 0 es
so_far_begins text firsts es head none all =
    record {
      done = [];
      known = λ t. ap (lookup (is_at (λ k. slice_cmp nat_cmp t k.items))) none;
      whole = ap (λ t. t ++ past_text [] (above 0 es)) head ∙ ap (λ x. version_text Two ++ past_text [] x) all;
    }

pub so_far_goes : (t0 t1 : List ℕ) (old new : BTreeMap (Vec ℕ Global) ℕ) (last n : ℕ) (c : Cert) (es : Entries) → above last es ≡ (n, c) ∷ above n es
    → t1 ≡ t0 ++ lines_text (ForCondition n ∷ listed_lines (listed_as (found (cert_text c) old) c)) → ((t : List ℕ) → found t new ≡ or_this (found t old) t (cert_text c) n)
    → IsSoFar t0 old last es → IsSoFar t1 new n es
so_far_goes t0 t1 old new last n c es next put noted s =
    record {
      done = s.done ++ (n, c) ∷ [];
      known = λ t. noted t ∙ ap (λ o. or_this o t (cert_text c) n) (s.known t) ∙ sym (first_end t s.done n c);
      whole =
          one_more t0 t1 (lines_text (ForCondition n ∷ listed_lines (listed_as (first_with (cert_text c) s.done) c))) (past_text s.done (above last es)) (past_text (s.done ++ (n, c) ∷ []) (above n es)) (shared_text es)
          (put ∙ ap (λ o. t0 ++ lines_text (ForCondition n ∷ listed_lines (listed_as o c))) (s.known (cert_text c)))
          (ap (past_text s.done) next ∙ lines_both (ForCondition n ∷ listed_lines (listed_as (first_with (cert_text c) s.done) c)) (listing_lines (listing_after (s.done ++ (n, c) ∷ []) (above n es))))
          s.whole;
    }

pub so_far_ends : (text : List ℕ) (firsts : BTreeMap (Vec ℕ Global) ℕ) (last : ℕ) (es : Entries) → above last es ≡ [] → IsSoFar text firsts last es → text ≡ shared_text es
so_far_ends text firsts last es none s = sym (append_none text) ∙ ap (λ x. text ++ past_text s.done x) (sym none) ∙ s.whole
  where
    append_none : (xs : List ℕ) → xs ++ [] ≡ xs
    append_none [] = refl
    append_none (x ∷ xs) = ap (λ ys. x ∷ ys) (append_none xs)
