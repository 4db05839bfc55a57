-- Answers to requests.
use Rattle.std.proofs.Common.{◌≡◌, ℕ, List, Option, Some, None, ap, refl, inl, inr}
use Rattle.serde_json.specs.Data.{Data}
use Rattle.og_lsp_message.specs.declared.code.ErrorCode.{ErrorCode}
use Rattle.og_lsp_message.specs.Answers.{answer_data, error_data}
use Rattle.og_lsp_server.specs.Replies.{IsReply}

-- a result, where never code is owed
pub result_reply : (owed : Option ErrorCode) (id result : Data) → ((code : ErrorCode) → owed ≡ Some code → ⊥) → IsReply owed id (answer_data id result)
result_reply None id result never = inl (result, refl)
result_reply (Some code) id result never = absurd (never code refl)

-- an error, of the code that is owed
pub error_reply : (owed : Option ErrorCode) (id : Data) (code : ErrorCode) (why : List ℕ) → ((other : ErrorCode) → owed ≡ Some other → code ≡ other) → IsReply owed id (error_data id code why)
error_reply None id code why same = inr (code, why, refl)
error_reply (Some other) id code why same = (why, ap (λ z. error_data id z why) (same other refl))
