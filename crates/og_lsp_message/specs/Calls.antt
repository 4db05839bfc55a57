-- What a message calls.
use Rattle.std.specs.Prelude.{ℕ, ℤ, List, Bool, false, ◌&&◌, ◌||◌, Option, Some, None, is_some, is_none, option_and_then, codes, if◌then◌else◌}
use Rattle.std.specs.Str.{bytes_eq}
use Rattle.serde_json.specs.Data.{Data, null, boolean, number, string, array, object}
use Rattle.serde_json.specs.Find.{get, as_str, as_i64, of_integer}
use Rattle.og_lsp_message.specs.declared.message.Kind.{Kind}
use Rattle.og_lsp_message.specs.declared.message.Kind.TheVariants.{Request, Notification, Answer, Other}

abbrev pub integer_id : Option ℤ → Option Data
integer_id None = None
integer_id (Some n) = Some (number (of_integer n))

-- an id is an integer of 64 bits, or a text
abbrev pub id_of : Data → Option Data
id_of null = None
id_of (boolean b) = None
id_of (number n) = integer_id (as_i64 n)
id_of (string text) = Some (string text)
id_of (array ds) = None
id_of (object ms) = None

-- the name of the called method
abbrev pub method_of : Data → Option (List ℕ)
method_of d = option_and_then as_str (get (codes "method") d)

-- the parameter of a name
abbrev pub parameter_of : List ℕ → Data → Option Data
parameter_of name d = option_and_then (get name) (get (codes "params") d)

abbrev pub is_text : List ℕ → Option (List ℕ) → Bool
is_text text None = false
is_text text (Some found) = bytes_eq found text

-- the member of this name is the text
abbrev pub has_text : List ℕ → List ℕ → Data → Bool
has_text name text d = is_text text (option_and_then as_str (get name d))

-- an answer has a result or an error, and names no method
abbrev pub kind_without_method : Data → Kind
kind_without_method d = if (is_some (get (codes "result") d) || is_some (get (codes "error") d)) && is_none (get (codes "method") d) then Answer else Other

-- a call names a method; it is a request with an id, and a notification without one
abbrev pub kind_of : Data → Kind
kind_of d =
    if has_text (codes "jsonrpc") (codes "2.0") d then
    (if is_none (method_of d) then kind_without_method d
    else if is_none (get (codes "id") d) then Notification
    else if is_some (option_and_then id_of (get (codes "id") d)) then Request
    else Other)
    else Other
