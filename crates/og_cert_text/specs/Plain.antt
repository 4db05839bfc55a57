-- The plain trees that the program's certificates stand for.
use Rattle.std.specs.Prelude.{List, [], ◌∷◌, map}
use Rattle.og_cert_text.specs.declared.cert.Source.{Source}
use Rattle.og_cert_text.specs.declared.cert.Source.TheVariants as source_type
use Rattle.og_cert_text.specs.declared.cert.Term.{Term}
use Rattle.og_cert_text.specs.declared.cert.CertStep.{CertStep}
use Rattle.og_cert_text.specs.declared.cert.CertStep.TheVariants as step_type
use Rattle.og_cert_text.specs.declared.cert.Finish.{Finish, Row_of-Cert, end_of-Cert, more_of-Cert}
use Rattle.og_cert_text.specs.declared.cert.Finish as finish_type
use Rattle.og_cert_text.specs.declared.cert.Cert.{Cert}
use Rattle.og_cert_text.specs.Tree as tree
use Rattle.og_cert_text.specs.Lines.{Line, SumLine, CutLine}

abbrev pub ref_of : Source → tree.Ref
ref_of (source_type.Known i) = tree.Known i
ref_of (source_type.Low v) = tree.Low v
ref_of (source_type.High v) = tree.High v

abbrev pub combination_of : List Term → tree.Combination
combination_of ts = map (λ t. (t.times, ref_of t.source)) ts

-- the certificate with these steps in front
abbrev pub with_steps : List CertStep → tree.Cert → tree.Cert
with_steps [] c = c
with_steps (step_type.Sum ts ∷ steps) c = tree.Sum (combination_of ts.items) (with_steps steps c)
with_steps (step_type.Cut i d ∷ steps) c = tree.Cut i d (with_steps steps c)

abbrev mutual
  pub plain_finish : Finish → tree.Cert
  plain_finish (finish_type.Close ts) = tree.Close (combination_of ts.items)
  plain_finish (finish_type.Branch' f _ steps finish _ others end) =
      tree.Branch f (with_steps steps.items (plain_finish finish)) (with_steps others.items (plain_finish end))
  plain_finish (finish_type.Split' i _ all) = tree.SplitOn i (plain_certs all)

  pub plain_certs : {n : _} → Row_of-Cert n → tree.Certs
  plain_certs end_of-Cert = tree.no_cert
  plain_certs (more_of-Cert steps finish rest) = tree.cert (with_steps steps.items (plain_finish finish)) (plain_certs rest)

abbrev pub plain_cert : Cert → tree.Cert
plain_cert c = with_steps c.steps.items (plain_finish c.finish)

-- the line of a step
abbrev pub step_line : CertStep → Line
step_line (step_type.Sum ts) = SumLine (combination_of ts.items)
step_line (step_type.Cut i d) = CutLine i d
