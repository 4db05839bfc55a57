-- A refusal, as JSON: the members of each object stand in the order of their bytes.
use Rattle.std.specs.Prelude.{ℕ, List, [], ◌∷◌, ◌++◌, Option, Some, None, codes}
use Rattle.serde_json.specs.Data.{Data, Members, string, object, member, no_members, put}
use Rattle.serde_json.specs.Written.{compact_text}
use Rattle.og_report_text.specs.Numbers.{natural}
use Rattle.og_report_text.specs.declared.places.Position.{Position}
use Rattle.og_report_prove.specs.Members.{utf8_text}

abbrev pub with_place : Option Position → Members → Members
with_place None ms = ms
with_place (Some p) ms = put (codes "column") (natural p.column) (put (codes "line") (natural p.line) ms)

abbrev pub with_help : Option (List ℕ) → Members → Members
with_help None ms = ms
with_help (Some help) ms = put (codes "help") (string (utf8_text help)) ms

-- its number and name, the place where there is one, why, and advice where there is some
abbrev pub refusal_data : ℕ → List ℕ → Option Position → List ℕ → Option (List ℕ) → Data
refusal_data number name place reason help = object
    (with_help help (with_place place
    (member (codes "name") (string name)
    (member (codes "number") (natural number)
    (member (codes "text") (string (utf8_text reason)) no_members)))))

abbrev pub refusal_line : ℕ → List ℕ → Option Position → List ℕ → Option (List ℕ) → List ℕ
refusal_line number name place reason help =
    compact_text (object (member (codes "refused") (refusal_data number name place reason help) no_members)) ++ 10 ∷ []
