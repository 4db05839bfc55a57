-- The report of a condition, with the effects that are known.
use Rattle.std.proofs.Common.{◌≡◌, ℕ, ◌+◌, List, [], ◌∷◌, ◌++◌, length, Bool, true, false, cond, Option, Some, None, refl, sym, ap, ◌∙◌, arith, codes}
use Rattle.std.specs.Str.{bytes_eq}
use Rattle.og_typed.specs.Syntax.{Formula}
use Rattle.og_cond.specs.Condition.{Condition}
use Rattle.og_report_prove.specs.Blocks.{block_text}
use Rattle.og_report_prove.specs.Effects.{alike_line, effect_of, effect_text, has_text, has_effect, first_with, after_effect, after_diagnosis}
use Rattle.og_report_prove.specs.Report.{effect_or_block, alike_or_block, body_text, head_text, one_text, diagnosis_text}
use Rattle.og_report_text.specs.Origins.{Rows}
use Rattle.og_report_prove.specs.declared.block.Block.{Block}
use Rattle.og_report_prove.specs.declared.diagnosis.Diagnosis.{Diagnosis}
use Rattle.og_report_prove.specs.declared.diagnosis.Diagnosis.TheVariants as diagnosis

module _ (names : List (List ℕ)) (source : List ℕ) (rows : Rows) where
  -- ---- only the known part of an effect counts

  body_same : (f g : List ℕ → Option ℕ) (e : Option (ℕ × List Formula)) (block : Block) → ((text : List ℕ) → f text ≡ g text)
      → effect_or_block names source rows f e block ≡ effect_or_block names source rows g e block
  body_same f g None block h = refl
  body_same f g (Some effect) block h = ap (λ k. alike_or_block names source rows k effect.1 block) (h (effect_text names source rows effect))

  one_same : (f g : List ℕ → Option ℕ) (n : ℕ) (c : Condition) (more : ℕ) (t : Diagnosis) → ((text : List ℕ) → f text ≡ g text)
      → one_text names source rows f n c more t ≡ one_text names source rows g n c more t
  one_same f g n c more diagnosis.Proved h = refl
  one_same f g n c more (diagnosis.False block) h =
      ap (λ (body : List ℕ). head_text source rows n c (codes "false") more ++ body) (body_same f g (effect_of block.details.value.explanation.action block.details.value.explanation.fault) block h)
  one_same f g n c more diagnosis.Open h = refl

  pub told_same : (f g : List ℕ → Option ℕ) (n : ℕ) (c : Condition) (m : Option ℕ) (t : Diagnosis) → ((text : List ℕ) → f text ≡ g text)
      → diagnosis_text names source rows f n c m t ≡ diagnosis_text names source rows g n c m t
  told_same f g n c None t h = refl
  told_same f g n c (Some more) t h = one_same f g n c more t h

  -- ---- the report of a false condition with an effect

  body_of : (known : List ℕ → Option ℕ) (block : Block) (effect : ℕ × List Formula) (text : List ℕ) (k : Option ℕ)
      → effect_of block.details.value.explanation.action block.details.value.explanation.fault ≡ Some effect → text ≡ effect_text names source rows effect → k ≡ known text
      → body_text names source rows known block ≡ alike_or_block names source rows k effect.1 block
  body_of known block effect text k is same seen =
      ap (λ e. effect_or_block names source rows known e block) is ∙ ap (λ o. alike_or_block names source rows o effect.1 block) (sym (seen ∙ ap known same))

  pub body_alike : (known : List ℕ → Option ℕ) (block : Block) (at : ℕ) (found : List Formula) (text : List ℕ) (k : ℕ)
      → effect_of block.details.value.explanation.action block.details.value.explanation.fault ≡ Some (at, found) → text ≡ effect_text names source rows (at, found) → Some k ≡ known text
      → body_text names source rows known block ≡ alike_line names k found
  body_alike known block at found text k is same seen = body_of known block (at, found) text (Some k) is same seen

  pub body_first : (known : List ℕ → Option ℕ) (block : Block) (at : ℕ) (found : List Formula) (text : List ℕ)
      → effect_of block.details.value.explanation.action block.details.value.explanation.fault ≡ Some (at, found) → text ≡ effect_text names source rows (at, found) → None ≡ known text
      → body_text names source rows known block ≡ block_text names source rows block
  body_first known block at found text is same seen = body_of known block (at, found) text None is same seen

  -- ---- the first with an effect, of one condition more

  alone_effect : (text : List ℕ) (n k : ℕ) (e : Option (ℕ × List Formula)) → n ≡ k → cond (has_text names source rows text e) (Some k) None ≡ after_effect names source rows e text n None
  alone_effect text n k None is = refl
  alone_effect text n k (Some effect) is = ap (λ (m : ℕ). cond (bytes_eq text (effect_text names source rows effect)) (Some m) None) (sym is)

  alone : (text : List ℕ) (n k : ℕ) (t : Diagnosis) → n ≡ k → first_with names source rows text k (t ∷ []) ≡ after_diagnosis names source rows t text n None
  alone text n k diagnosis.Proved is = refl
  alone text n k (diagnosis.False block) is = alone_effect text n k (effect_of block.details.value.explanation.action block.details.value.explanation.fault) is
  alone text n k diagnosis.Open is = refl

  kept_effect : (text : List ℕ) (n k : ℕ) (e : Option (ℕ × List Formula)) → Some k ≡ after_effect names source rows e text n (Some k)
  kept_effect text n k None = refl
  kept_effect text n k (Some effect) = refl

  kept : (text : List ℕ) (n k : ℕ) (t : Diagnosis) → Some k ≡ after_diagnosis names source rows t text n (Some k)
  kept text n k diagnosis.Proved = refl
  kept text n k (diagnosis.False block) = kept_effect text n k (effect_of block.details.value.explanation.action block.details.value.explanation.fault)
  kept text n k diagnosis.Open = refl

  pub first_end : (text : List ℕ) (n k : ℕ) (done : List Diagnosis) (t : Diagnosis) → n ≡ k + length done
      → first_with names source rows text k (done ++ t ∷ []) ≡ after_diagnosis names source rows t text n (first_with names source rows text k done)
  first_end text n k [] t is = alone text n k t (omega (arith, is))
  first_end text n k (x ∷ done) t is = from (has_effect names source rows text x) (first_end text n (k + 1) done t (omega (arith, is)))
    where
      from : (b : Bool) → first_with names source rows text (k + 1) (done ++ t ∷ []) ≡ after_diagnosis names source rows t text n (first_with names source rows text (k + 1) done)
          → cond b (Some k) (first_with names source rows text (k + 1) (done ++ t ∷ [])) ≡ after_diagnosis names source rows t text n (cond b (Some k) (first_with names source rows text (k + 1) done))
      from true h = kept text n k t
      from false h = h
