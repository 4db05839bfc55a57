-- What a client is answered, as JSON.
use Rattle.std.specs.Prelude.{ℕ, ℤ, pos, neg_ℤ, List, codes}
use Rattle.serde_json.specs.Data.{Data, number, string, object, member, no_members}
use Rattle.serde_json.specs.Find.{of_integer}
use Rattle.og_lsp_message.specs.declared.code.ErrorCode.{ErrorCode}
use Rattle.og_lsp_message.specs.declared.code.ErrorCode.TheVariants.{ParseError, InvalidRequest, MethodNotFound, InvalidParams, NotInitialized, RequestFailed}

-- the number that the protocol has for an error
abbrev pub number_of : ErrorCode → ℤ
number_of ParseError = neg_ℤ (pos 32700)
number_of InvalidRequest = neg_ℤ (pos 32600)
number_of MethodNotFound = neg_ℤ (pos 32601)
number_of InvalidParams = neg_ℤ (pos 32602)
number_of NotInitialized = neg_ℤ (pos 32002)
number_of RequestFailed = neg_ℤ (pos 32803)

-- the members stand in the order of their names
abbrev pub answer_data : Data → Data → Data
answer_data id result = object (member (codes "id") id (member (codes "jsonrpc") (string (codes "2.0")) (member (codes "result") result no_members)))

abbrev pub error_data : Data → ErrorCode → List ℕ → Data
error_data id code message =
    let error = object (member (codes "code") (number (of_integer (number_of code))) (member (codes "message") (string message) no_members)) in
    object (member (codes "error") error (member (codes "id") id (member (codes "jsonrpc") (string (codes "2.0")) no_members)))

abbrev pub notification_data : List ℕ → Data → Data
notification_data method params = object (member (codes "jsonrpc") (string (codes "2.0")) (member (codes "method") (string method) (member (codes "params") params no_members)))
