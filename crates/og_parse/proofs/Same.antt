-- Readers that give the same, however their parts are put together.
use Rattle.std.proofs.Common.{◌≡◌, ℕ, Bool, List, ◌++◌, Result, Ok, Err, refl, sym, ◌∙◌, inl, inr}
use Rattle.og_text.specs.declared.token.Token.{Token}
use Rattle.og_parse.specs.Language.{Language}
use Rattle.og_parse.specs.Reading.{Stop, Reader, ◌>>=◌}
use Rattle.og_parse.proofs.Languages.{Laws}
use Rattle.og_parse.proofs.Wider.{Widens}
use Rattle.og_parse.proofs.Bundle.{Reads}

pub nested : {A B C : Type 0} (r : Result A Stop) (f : A → Result B Stop) (g : B → Result C Stop) → ((r >>= f) >>= g) ≡ (r >>= λ x. f x >>= g)
nested (Ok x) f g = refl
nested (Err e) f g = refl

-- the laws hold of a reader that gives the same
same_laws : {X : Type 0} {read read' : Reader X} {is : Language X} {longer : ℕ → Bool} → ((tokens : List Token) → read tokens ≡ read' tokens) → Laws read is longer → Laws read' is longer
same_laws same laws = record {
  takes = λ tokens x rest e.
      let t = laws.takes tokens x rest (same tokens ∙ e) in
      record { front = t.front; parts = t.parts; is_read = t.is_read; fixed = λ other h. sym (same (t.front ++ other)) ∙ t.fixed other h };
  stops = λ tokens kind rest e.
      let t = laws.stops tokens kind rest (same tokens ∙ e) in
      record { front = t.front; parts = t.parts; begins = t.begins; fixed = λ other h. sym (same (t.front ++ other)) ∙ t.fixed other h };
  again = λ x front rest h ends. sym (same (front ++ rest)) ∙ laws.again x front rest h ends;
}

same_widens : {More : Type 0} {X : Type 0} {read read' wide wide' : Reader X} {is : Language X} → ((tokens : List Token) → read tokens ≡ read' tokens) → ((tokens : List Token) → wide tokens ≡ wide' tokens) → Widens More read wide is → Widens More read' wide' is
same_widens same same_wide w = record {
  keeps = λ tokens y e. sym (same_wide tokens) ∙ w.keeps tokens y (same tokens ∙ e);
  faults = λ tokens s e. elim (w.faults tokens s (same tokens ∙ e)) [
    | inl p ↦ inl (p.0, sym (same_wide tokens) ∙ p.1)
    | inr g ↦ inr g
  ];
}

pub same_reads : {More : Type 0} {X : Type 0} {read read' wide wide' : Reader X} {is all : Language X} {longer : ℕ → Bool} → ((tokens : List Token) → read tokens ≡ read' tokens) → ((tokens : List Token) → wide tokens ≡ wide' tokens) → Reads More read wide is all longer → Reads More read' wide' is all longer
same_reads same same_wide r = record { laws = same_laws same r.laws; wide_laws = same_laws same_wide r.wide_laws; widens = same_widens same same_wide r.widens; some = r.some }
