-- Why an entry is not added.
use Rattle.std.proofs.Common.{◌≡◌, ℕ, refl, ap, sym, subst, ◌∙◌, Bool, ◌&&◌, true, false, Option, Some, None, ◌⊎◌, inl, inr, Result, Ok, Err}
use Rattle.std.specs.Prelude.{not, if◌then◌else◌}
use Rattle.std.specs.List.{list_all}
use Rattle.std.specs.Option.{is_some, is_none}
use Rattle.og_cert_text.specs.declared.fault.CertFileFault.{CertFileFault}
use Rattle.og_cert_text.specs.declared.fault.CertFileFault.TheVariants as faults
use Rattle.og_cert_text.specs.declared.fault.CertFileError.{CertFileError}
use Rattle.og_cert_text.specs.declared.fault.CertFileError.TheVariants as errors
use Rattle.og_cert_text.specs.Tree.{Cert}
use Rattle.og_cert_text.specs.Lines.{is_number, is_line}
use Rattle.og_cert_text.specs.Shallow.{is_shallow, cert_lines, is_well_formed}
use Rattle.og_cert_text.specs.Files.{Entries, certificate_of, with_entry}
use Rattle.og_cert_text.specs.Shown.{fault_of_entry, fault_of_same, IsAdded}
use Rattle.og_cert_text.proofs.Forms.{both_true, and_parts, and_false_left, and_false_right}
use Rattle.og_cert_text.proofs.Stored.{not_some}

abbrev fault_by : Bool → Bool → Bool → Option CertFileFault
fault_by has shallow good = if has then Some faults.Twice else (if not shallow then Some faults.TooDeep else (if not good then Some faults.BadNumber else None))

pub entry_twice : (n : ℕ) (c : Cert) (es : Entries) → is_some (certificate_of n es) ≡ true → fault_of_entry n c es ≡ Some faults.Twice
entry_twice n c es p = ap (λ b. fault_by b (is_shallow 0 c) (is_number n && is_well_formed c)) p

pub entry_deep : (n : ℕ) (c : Cert) (es : Entries) → is_some (certificate_of n es) ≡ false → is_shallow 0 c ≡ false → fault_of_entry n c es ≡ Some faults.TooDeep
entry_deep n c es p q = ap (λ b. fault_by b (is_shallow 0 c) (is_number n && is_well_formed c)) p ∙ ap (λ b. fault_by false b (is_number n && is_well_formed c)) q

entry_good : (n : ℕ) (c : Cert) (es : Entries) (g : Bool) → is_some (certificate_of n es) ≡ false → is_shallow 0 c ≡ true → (is_number n && is_well_formed c) ≡ g → fault_of_entry n c es ≡ fault_by false true g
entry_good n c es g p q r =
    ap (λ b. fault_by b (is_shallow 0 c) (is_number n && is_well_formed c)) p
    ∙ ap (λ b. fault_by false b (is_number n && is_well_formed c)) q
    ∙ ap (fault_by false true) r

pub entry_bad : (n : ℕ) (c : Cert) (es : Entries) → is_some (certificate_of n es) ≡ false → is_shallow 0 c ≡ true → (is_number n ≡ false) ⊎ (list_all is_line (cert_lines c) ≡ false) → fault_of_entry n c es ≡ Some faults.BadNumber
entry_bad n c es p q bad = entry_good n c es false p q (off bad)
  where
    off : (is_number n ≡ false) ⊎ (list_all is_line (cert_lines c) ≡ false) → (is_number n && is_well_formed c) ≡ false
    off (inl h) = and_false_left _ _ h
    off (inr h) = and_false_right _ _ (and_false_right _ _ h)

pub entry_fine : (n : ℕ) (c : Cert) (es : Entries) → is_some (certificate_of n es) ≡ false → is_shallow 0 c ≡ true → is_number n ≡ true → list_all is_line (cert_lines c) ≡ true → fault_of_entry n c es ≡ None
entry_fine n c es p q g l = entry_good n c es true p q (both_true _ _ g (both_true _ _ q l))

pub entry_none : (n : ℕ) (c : Cert) (es : Entries) → fault_of_entry n c es ≡ None → (certificate_of n es ≡ None) × (is_number n ≡ true) × (is_well_formed c ≡ true)
entry_none n c es h = from (is_some (certificate_of n es)) (is_shallow 0 c) (is_number n && is_well_formed c) refl refl h
  where
    from : (a b g : Bool) → is_some (certificate_of n es) ≡ a → (is_number n && is_well_formed c) ≡ g → fault_by a b g ≡ None → (certificate_of n es ≡ None) × (is_number n ≡ true) × (is_well_formed c ≡ true)
    from true b g p r h = cc
    from false false g p r h = cc
    from false true false p r h = cc
    from false true true p r h = let q = and_parts (is_number n) (is_well_formed c) r in (not_some (certificate_of n es) p, q.0, q.1)

abbrev same_by : Bool → Bool → Bool → Option CertFileFault
same_by has none good = if has then Some faults.Twice else (if none then Some faults.NoSuchCertificate else (if not good then Some faults.BadNumber else None))

pub same_is : (n k : ℕ) (es : Entries) (a b g : Bool) → is_some (certificate_of n es) ≡ a → is_none (certificate_of k es) ≡ b → is_number n ≡ g → fault_of_same n k es ≡ same_by a b g
same_is n k es a b g p q r =
    ap (λ x. same_by x (is_none (certificate_of k es)) (is_number n)) p
    ∙ ap (λ x. same_by a x (is_number n)) q
    ∙ ap (same_by a b) r

pub same_added : (n k : ℕ) (es fs : Entries) (d : Cert) → certificate_of k es ≡ Some d → fault_of_same n k es ≡ None → fs ≡ with_entry n d es → IsAdded (Ok tt) (fault_of_same n k es) (certificate_of k es) n es fs
same_added n k es fs d e none after = let P : Option Cert → Type 0 = λ o. IsAdded (Ok tt) (fault_of_same n k es) o n es fs in subst P (sym e) (none, after)

-- memory ran out
pub not_added : (r : Result (Unit {0}) CertFileError) (fault : Option CertFileFault) (c : Option Cert) (n : ℕ) (es fs : Entries) → r ≡ Err errors.Memory → fault ≡ None → fs ≡ es → IsAdded r fault c n es fs
not_added r fault c n es fs e none kept = subst (λ x. IsAdded x fault c n es fs) (sym e) (none, kept)
