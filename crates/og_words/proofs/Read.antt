-- What the getters of matches read is what the words give.
use Rattle.std.proofs.Common.{◌≡◌, ◌∙◌, ◌≢◌, ap, refl, sym, subst, ℕ, Bool, true, false, List, [], Option, None, Some, Result, Ok, IfSome, map, codes, Bor}
use Rattle.std.specs.Prelude.{option_map, unwrap_or}
use Rattle.std.specs.Option.{option_map_or}
use Rattle.std.specs.Str.{bytes_eq}
use Rattle.std.specs.Str.Parse.{ParsesBool, ParsesUnsigned, digits_value, true_text, without_leading_plus}
use Rattle.std.proofs.lemmas.Slice.Eq.{bytes_eq-Decides}
use Rattle.clap.specs.Words.{ReadsOne, Text, is_simple, matched_of, one_of, one_text, raw_values, rows_of}
use Rattle.clap.specs.declared.parser.matches.Found.{Found}
use Rattle.clap.proofs.OnLiterals.{clap_on_literals}
use Rattle.clap.proofs.WalkLemmas.{one_text-rows, raw_values-rows}
use Rattle.og_words.specs.CommandLine.{og}
use Rattle.og_words.specs.Given.{number_of, is_given, texts_of}

pub og_is_simple : is_simple og ≡ true
unfolding clap_on_literals
og_is_simple = refl

-- a number that is read
number_at : {E : Type 0} (k : ℕ) (G : List ℕ → Result ℕ E → Type 0) (given read : Option (List ℕ)) (r : Option ℕ)
    → ((t : List ℕ) (x : Result ℕ E) → G t x → ParsesUnsigned k 10 t x) → given ≡ read
    → (read ≡ None → r ≡ None) → ((t : List ℕ) → read ≡ Some t → ReadsOne G t r)
    → IfSome r (λ n. option_map (λ t. digits_value 10 (without_leading_plus t)) given ≡ Some n)
number_at k G given None r only is none some =
    subst (λ (o : Option ℕ). IfSome o (λ n. option_map (λ t. digits_value 10 (without_leading_plus t)) given ≡ Some n)) (sym (none refl)) tt
number_at k G given (Some t) (Some n) only is none some =
    let parsed = only t (Ok n) (some t refl) in
    ap (option_map (λ t. digits_value 10 (without_leading_plus t))) is ∙ ap Some (sym parsed.1)
number_at k G given (Some t) None only is none some = tt

pub number_read : {E : Type 0} (k : ℕ) (G : List ℕ → Result ℕ E → Type 0) (f : Found) (name : Text) (r : Option ℕ)
    → ((t : List ℕ) (x : Result ℕ E) → G t x → ParsesUnsigned k 10 t x)
    → (one_text f name ≡ None → r ≡ None) → ((t : List ℕ) → one_text f name ≡ Some t → ReadsOne G t r)
    → IfSome r (λ n. number_of name (rows_of f) ≡ Some n)
number_read k G f name r only none some = number_at k G (one_of name (rows_of f)) (one_text f name) r only (sym (one_text-rows f name)) none some

not_true : (t : List ℕ) (b : Bool) → bytes_eq t true_text ≡ b → t ≢ true_text → b ≡ false
not_true t true e other = absurd (other ((bytes_eq-Decides t true_text).0 e))
not_true t false e other = refl

flag_at : (E : Type 0) (read : Option (List ℕ)) (r : Option Bool)
    → (read ≡ None → r ≡ None) → ((t : List ℕ) → read ≡ Some t → ReadsOne (ParsesBool {E = E}) t r)
    → unwrap_or r false ≡ option_map_or (λ t. bytes_eq t (codes "true")) read false
flag_at E None r none some = ap (λ (o : Option Bool). unwrap_or o false) (none refl)
flag_at E (Some t) (Some true) none some = sym (ap (λ (u : List ℕ). bytes_eq u (codes "true")) (some t refl))
flag_at E (Some t) (Some false) none some = sym (ap (λ (u : List ℕ). bytes_eq u (codes "true")) (some t refl))
flag_at E (Some t) None none some = sym (not_true t (bytes_eq t true_text) refl (some t refl).1.0)

pub flag_read : (E : Type 0) (f : Found) (name : Text) (r : Option Bool)
    → (one_text f name ≡ None → r ≡ None) → ((t : List ℕ) → one_text f name ≡ Some t → ReadsOne (ParsesBool {E = E}) t r)
    → unwrap_or r false ≡ is_given name (rows_of f)
flag_read E f name r none some =
    flag_at E (one_text f name) r none some ∙ ap (λ (o : Option (List ℕ)). option_map_or (λ t. bytes_eq t (codes "true")) o false) (one_text-rows f name)

-- words that are read
pub texts_read : (f : Found) (name : Text) (r : Option (Bor (List (Bor (List ℕ)))))
    → option_map (λ s. map (λ v. v.now) s.now) r ≡ option_map raw_values (matched_of f name)
    → unwrap_or (option_map (λ s. map (λ v. v.now) s.now) r) [] ≡ texts_of name (rows_of f)
texts_read f name r is = ap (λ (o : Option (List (List ℕ))). unwrap_or o []) (is ∙ raw_values-rows f name)
