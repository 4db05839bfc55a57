use Rattle.std.proofs.Common.{zero-add, ◌≡◌, ◌++◌, ℕ, ◌+◌, ◌-◌, ◌<◌, ◌≤◌, ℤ, pos, List, length, length-append, sym, ap, ◌∙◌, arith, ext_get_or, ◌⊎◌, inl, inr}
use Rattle.std.proofs.Math.ListN.{get_or-append}
use Rattle.std.proofs.Math.Seq.{get_or-append_right}
use Rattle.std.proofs.lemmas.Bool.{cases_lt}
use Rattle.og_linear.specs.Linear.{value_at}
use Rattle.og_step.proofs.values.put_both.Goals as goal

-- each value is that of the first list, or of the second
both : (new first second : List ℤ) → length new ≡ length first + length second → ((x : ℕ) → x < length first → value_at new x ≡ value_at first x) → ((x : ℕ) → x < length second → value_at new (length first + x) ≡ value_at second x) → new ≡ first ++ second
both new first second long begins ends = ext_get_or (pos 0) new (first ++ second) (long ∙ sym (length-append first second)) (λ i lt. go i lt (cases_lt i (length first)))
  where
    go : (i : ℕ) → i < length new → (i < length first) ⊎ (length first ≤ i) → value_at new i ≡ value_at (first ++ second) i
    go i lt (inl h) = begins i h ∙ sym (get_or-append first second (pos 0) i h)
    go i lt (inr h) =
        let at : length first + (i - length first) ≡ i = omega (arith, h) in
        ap (value_at new) (sym at) ∙ ends (i - length first) (omega (arith, lt, long, h)) ∙ sym (get_or-append_right first second i (pos 0) h)

pub returns : goal.returns
returns c =
    let long = c.put_from-2.ensures.long ∙ c.put_from.ensures.long ∙ sym c.requires.long in
    both c.put_from-2.new.state c.args.first.now c.args.second.now long
    (λ x h. c.put_from-2.ensures.before x h ∙ ap (value_at c.put_from.new.state) (sym (zero-add x)) ∙ c.put_from.ensures.put x h)
    (λ x h. c.put_from-2.ensures.put x h)
