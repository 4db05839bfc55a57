-- What a message of a kind names.
use Rattle.std.proofs.Common.{◌≡◌, ℕ, List, Bool, true, false, cond, Option, Some, None, is_none, refl}
use Rattle.std.specs.Prelude.{is_some, option_and_then, codes, ◌&&◌, ◌||◌}
use Rattle.serde_json.specs.Data.{Data}
use Rattle.serde_json.specs.Find.{get}
use Rattle.og_lsp_message.specs.declared.message.Kind.{Kind}
use Rattle.og_lsp_message.specs.declared.message.Kind.TheVariants.{Request, Notification, Answer, Other}
use Rattle.og_lsp_message.specs.Calls.{id_of, method_of, has_text, kind_of, kind_without_method}

-- a request names a method and has an id
pub record NamesBoth (method : Option (List ℕ)) (id : Option Data) : Type 0 where
  pub name : List ℕ
  pub known : Data
  pub is_method : method ≡ Some name
  pub is_id : id ≡ Some known

without_is_call : (b : Bool) → cond b Answer Other ≡ Request → ⊥
without_is_call true e = cc
without_is_call false e = cc

without_is_notice : (b : Bool) → cond b Answer Other ≡ Notification → ⊥
without_is_notice true e = cc
without_is_notice false e = cc

both_by : (named : Bool) (method : Option (List ℕ)) (at id : Option Data) (rest : Kind) → (rest ≡ Request → ⊥)
    → cond named (cond (is_none method) rest (cond (is_none at) Notification (cond (is_some id) Request Other))) Other ≡ Request → NamesBoth method id
both_by true None at id rest never e = absurd (never e)
both_by true (Some m) None id rest never e = cc
both_by true (Some m) (Some g) None rest never e = cc
both_by true (Some m) (Some g) (Some i) rest never e = record { name = m; known = i; is_method = refl; is_id = refl }
both_by false method at id rest never e = cc

pub names_both : (d : Data) → kind_of d ≡ Request → NamesBoth (method_of d) (option_and_then id_of (get (codes "id") d))
names_both d e =
    both_by (has_text (codes "jsonrpc") (codes "2.0") d) (method_of d) (get (codes "id") d) (option_and_then id_of (get (codes "id") d)) (kind_without_method d)
    (without_is_call ((is_some (get (codes "result") d) || is_some (get (codes "error") d)) && is_none (get (codes "method") d))) e

notice_by : (named : Bool) (method : Option (List ℕ)) (at id : Option Data) (rest : Kind) → (rest ≡ Notification → ⊥)
    → cond named (cond (is_none method) rest (cond (is_none at) Notification (cond (is_some id) Request Other))) Other ≡ Notification → method ≡ None → ⊥
notice_by true None at id rest never e none = never e
notice_by true (Some m) at id rest never e none = cc
notice_by false method at id rest never e none = cc

-- a notification names a method
pub names_method : (d : Data) → kind_of d ≡ Notification → method_of d ≡ None → ⊥
names_method d e none =
    notice_by (has_text (codes "jsonrpc") (codes "2.0") d) (method_of d) (get (codes "id") d) (option_and_then id_of (get (codes "id") d)) (kind_without_method d)
    (without_is_notice ((is_some (get (codes "result") d) || is_some (get (codes "error") d)) && is_none (get (codes "method") d))) e none
