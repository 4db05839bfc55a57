-- A line of a certificate as one check, in the form in which the code works it out.
use Rattle.std.specs.Prelude.{ℕ, List, [], ◌∷◌, ◌++◌, length, Result, Ok}
use Rattle.og_linear.specs.Linear.{FormValue}
use Rattle.og_facts.specs.Facts.{Fact, Atom}
use Rattle.og_cert_text.specs.Tree.{Certs, no_cert, cert}
use Rattle.og_cert_text.specs.declared.cert.Cert.{Cert}
use Rattle.og_cert_text.specs.declared.cert.CertStep.{CertStep}
use Rattle.og_cert_text.specs.declared.cert.CertStep.TheVariants as step
use Rattle.og_cert_text.specs.Plain.{combination_of, plain_cert}
use Rattle.og_cert.specs.declared.fault.FaultKind.{FaultKind}
use Rattle.og_cert.specs.Checks.{ok_then, room, combination, cut_at, otherwise, parts_at, one_each}

-- the form that a step makes
abbrev pub made : ℕ → List Fact → CertStep → Result FormValue FaultKind
made n fs (step.Sum ts) = combination n fs (combination_of ts.items)
made n fs (step.Cut i d) = cut_at fs i d

-- the facts after a step
abbrev pub stepped : ℕ → List Fact → CertStep → Result (List Fact) FaultKind
stepped n fs s = ok_then (made n fs s) (λ f. ok_then (room fs 1) (λ _. Ok (fs ++ Atom f ∷ [])))

-- the other form of a branch, where there is room for a fact
abbrev pub opened : ℕ → List Fact → FormValue → Result FormValue FaultKind
opened n fs f = ok_then (otherwise n f) (λ g. ok_then (room fs 1) (λ _. Ok g))

-- the parts of a split, if there are this many
abbrev pub split_for : List Fact → ℕ → ℕ → Result (List (List Fact)) FaultKind
split_for fs i certs = ok_then (parts_at fs i) (λ ps. ok_then (one_each (length ps) certs) (λ _. Ok ps))

-- the trees of certificates
abbrev pub certs_of : List Cert → Certs
certs_of [] = no_cert
certs_of (c ∷ cs) = cert (plain_cert c) (certs_of cs)
