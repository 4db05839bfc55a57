-- What the server says to a message, and what it is at afterwards.
use Rattle.std.specs.Prelude.{◌≡◌, ◌⊎◌, ℕ, List, [], ◌∷◌, ◌++◌, Bool, true, false, codes, Option, Some, None, option_and_then, Result, Ok, Err, if◌then◌else◌}
use Rattle.std.specs.Str.{bytes_eq}
use Rattle.std.specs.List.{AllByRecursion}
use Rattle.serde_json.specs.Data.{Data, null}
use Rattle.serde_json.specs.View.{view}
use Rattle.serde_json.specs.Find.{get}
use Rattle.og_lsp_message.specs.declared.code.ErrorCode.{ErrorCode}
use Rattle.og_lsp_message.specs.declared.code.ErrorCode.TheVariants.{ParseError, InvalidRequest, MethodNotFound, NotInitialized}
use Rattle.og_lsp_message.specs.declared.message.Message.{Message}
use Rattle.og_lsp_message.specs.declared.message.MessageError.{MessageError}
use Rattle.og_lsp_message.specs.declared.message.MessageError.TheVariants.{NoJson}
use Rattle.og_lsp_message.specs.declared.message.Kind.{Kind}
use Rattle.og_lsp_message.specs.declared.message.Kind.TheVariants as kinds
use Rattle.og_lsp_message.specs.Calls.{id_of, method_of, kind_of}
use Rattle.og_lsp_message.specs.Ids.{known_id}
use Rattle.og_lsp_message.specs.Answers.{answer_data, error_data, notification_data}
use Rattle.og_lsp_server.specs.declared.method.Method.{Method}
use Rattle.og_lsp_server.specs.declared.method.Method.TheVariants as methods
use Rattle.og_lsp_server.specs.declared.server.Phase.{Phase}
use Rattle.og_lsp_server.specs.declared.server.Phase.TheVariants as phases
use Rattle.og_lsp_server.specs.declared.server.Flow.{Flow}
use Rattle.og_lsp_server.specs.declared.server.Flow.TheVariants as flows
use Rattle.og_lsp_server.specs.Methods.{method_named}

-- ---- requests

-- with which code a request is refused while the server serves: there is no such method, or it has been initialized
abbrev pub refused_ready : Option Method → Option ErrorCode
refused_ready None = Some MethodNotFound
refused_ready (Some methods.Initialize) = Some InvalidRequest
refused_ready (Some method) = None

-- before `initialize` each other request is
abbrev pub refused_fresh : Option Method → Option ErrorCode
refused_fresh (Some methods.Initialize) = None
refused_fresh method = Some NotInitialized

-- the code with which a request is refused whatever its parameters are
abbrev pub refused_with : Phase → Option Method → Option ErrorCode
refused_with phases.Fresh method = refused_fresh method
refused_with phases.Ready method = refused_ready method
refused_with phases.Closing method = Some InvalidRequest

-- the answer to a request: a result or an error, or just the error of that code
abbrev pub IsReply : Option ErrorCode → Data → Data → Type 0
IsReply None id answer = ((result : Data) × (answer ≡ answer_data id result)) ⊎ ((code : ErrorCode) × (why : List ℕ) × (answer ≡ error_data id code why))
IsReply (Some code) id answer = (why : List ℕ) × (answer ≡ error_data id code why)

-- one answer was added, with the id of the request
abbrev pub AddsReply : Option ErrorCode → Data → List Data → List Data → Type 0
AddsReply code id old new = (answer : Data) × IsReply code id answer × (new ≡ old ++ answer ∷ [])

-- ---- notifications

abbrev pub IsNotification : Data → Type 0
IsNotification d = (method : List ℕ) × (params : Data) × (d ≡ notification_data method params)

-- notifications alone were added
abbrev pub AddsNotifications : List Data → List Data → Type 0
AddsNotifications old new = (added : List Data) × AllByRecursion IsNotification added × (new ≡ old ++ added)

-- ---- a session

abbrev pub is_closing : Phase → Bool
is_closing phases.Fresh = false
is_closing phases.Ready = false
is_closing phases.Closing = true

-- `exit` ends the session
abbrev pub flow_of : Phase → List ℕ → Flow
flow_of phase method = if bytes_eq method (codes "exit") then flows.Exits (is_closing phase) else flows.GoesOn

-- `initialize` begins the serving, and `shutdown` ends it
abbrev pub phase_behind : Phase → Option Method → Phase
phase_behind phases.Fresh (Some methods.Initialize) = phases.Ready
phase_behind phases.Ready (Some methods.Shutdown) = phases.Closing
phase_behind phase method = phase

-- ---- messages

abbrev pub text_or_none : Option (List ℕ) → List ℕ
text_or_none None = []
text_or_none (Some text) = text

-- the name of the method that a message calls
abbrev pub method_in : Data → List ℕ
method_in d = text_or_none (method_of d)

-- the id of a message, or null
abbrev pub id_in : Data → Data
id_in d = known_id (option_and_then id_of (get (codes "id") d))

-- what is said to a message: one answer to a request; nothing to an answer; to what is none of these, that it is no call
abbrev pub Says : Kind → Phase → Data → List Data → List Data → Type 0
Says kinds.Request phase d old new = AddsReply (refused_with phase (method_named (method_in d))) (id_in d) old new
Says kinds.Notification phase d old new = AddsNotifications old new
Says kinds.Answer phase d old new = new ≡ old
Says kinds.Other phase d old new = AddsReply (Some InvalidRequest) (id_in d) old new

-- whether the session goes on, and what the server is at
abbrev pub Leads : Kind → Phase → Data → Flow → Phase → Type 0
Leads kinds.Request phase d flow after = (flow ≡ flows.GoesOn) × (after ≡ phase_behind phase (method_named (method_in d)))
Leads kinds.Notification phase d flow after = (flow ≡ flow_of phase (method_in d)) × (after ≡ phase)
Leads kinds.Answer phase d flow after = (flow ≡ flows.GoesOn) × (after ≡ phase)
Leads kinds.Other phase d flow after = (flow ≡ flows.GoesOn) × (after ≡ phase)

abbrev TakesMessage : Data → Phase → List Data → List Data → Flow → Phase → Type 0
TakesMessage d phase old new flow after = Says (kind_of d) phase d old new × Leads (kind_of d) phase d flow after

-- a message was taken, or it is told that it is no JSON
abbrev pub Takes : Result Message MessageError → Phase → List Data → List Data → Flow → Phase → Type 0
Takes (Ok message) phase old new flow after = TakesMessage (view message.value) phase old new flow after
Takes (Err e) phase old new flow after = (e ≡ NoJson) × AddsReply (Some ParseError) null old new × (flow ≡ flows.GoesOn) × (after ≡ phase)
