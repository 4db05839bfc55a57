-- The sentence that says what a false condition means.
use Rattle.std.specs.Prelude.{ℕ, ◌+◌, List, [], Bool, true, false, Option, Some, None, codes}
use Rattle.std.specs.Fmt.{decimal}
use Rattle.og_cond.specs.declared.kind.Kind.{Kind}
use Rattle.og_cond.specs.declared.kind.Kind.TheVariants as kinds
use Rattle.og_report_text.specs.Places.{◌&◌}
use Rattle.og_typed.specs.declared.sites.Part.{Part}
use Rattle.og_typed.specs.declared.sites.Part.TheVariants as parts
use Rattle.og_report_explain.specs.declared.actor.Actors.{Actors}

-- at the head of a sentence, or within it
abbrev pub part_text : Bool → Part → List ℕ
part_text true parts.Prologue = codes "The main process"
part_text true (parts.Process n) = codes "Process " & decimal (n + 1)
part_text true parts.Epilogue = codes "The main process"
part_text false parts.Prologue = codes "the main process"
part_text false (parts.Process n) = codes "process " & decimal (n + 1)
part_text false parts.Epilogue = codes "the main process"

-- nothing where nobody is named
abbrev pub actor_text : Bool → Option Part → List ℕ
actor_text head None = []
actor_text head (Some part) = part_text head part

-- whether the sentence begins with who makes the step
abbrev pub begins : Kind → Bool
begins kinds.Prologue = false
begins kinds.Start = true
begins kinds.Step = false
begins kinds.Range = false
begins kinds.Then = true
begins kinds.Else = true
begins kinds.Join = true
begins kinds.Enter = true
begins kinds.Again = true
begins kinds.Leave = true
begins kinds.Interfere = false
begins kinds.End = false
begins kinds.Epilogue = false
begins kinds.Blocking = false

-- before who makes the step
abbrev pub opening : Kind → List ℕ
opening kinds.Prologue = codes "The prologue may start"
opening kinds.Start = []
opening kinds.Step = codes "A step of "
opening kinds.Range = codes "A step of "
opening kinds.Then = []
opening kinds.Else = []
opening kinds.Join = []
opening kinds.Enter = []
opening kinds.Again = []
opening kinds.Leave = []
opening kinds.Interfere = codes "A step of "
opening kinds.End = codes "All processes may have ended"
opening kinds.Epilogue = codes "The epilogue may have ended"
opening kinds.Blocking = codes "All processes may have ended or wait, and one of them waits."

-- after it; `plain` of an `if` without an else branch, and of an end without an epilogue
abbrev pub closing : Kind → Bool → List ℕ
closing kinds.Prologue plain = codes " where its first assertion is false."
closing kinds.Start plain = codes " may start where its first assertion is false."
closing kinds.Step plain = codes " leads where the assertion after it is false."
closing kinds.Range plain = codes " assigns a value that is no 64-bit number."
closing kinds.Then plain = codes " may enter the branch where its first assertion is false."
closing kinds.Else true = codes " may pass the branch by where the assertion after the `if` is false."
closing kinds.Else false = codes " may enter the else branch where its first assertion is false."
closing kinds.Join plain = codes " may leave the branch where the assertion after the `if` is false."
closing kinds.Enter plain = codes " may enter the loop where the first assertion of its body is false."
closing kinds.Again plain = codes " may end a round of the loop where the assertion before the loop is false."
closing kinds.Leave plain = codes " may leave the loop where the assertion after it is false."
closing kinds.Interfere plain = codes " makes an assertion of "
closing kinds.End true = codes " where the postcondition is false."
closing kinds.End false = codes " where the first assertion of the epilogue is false."
closing kinds.Epilogue plain = codes " where the postcondition is false."
closing kinds.Blocking plain = []

-- after whose assertion it is
abbrev pub ending : Option Part → List ℕ
ending None = []
ending (Some part) = part_text false part & codes " false."

abbrev pub sentence_text : Kind → Actors → List ℕ
sentence_text kind actors = opening kind & actor_text (begins kind) actors.actor & closing kind actors.plain & ending actors.other
