-- Messages that are written.
use Rattle.std.proofs.Common.{◌≡◌, ℕ, List, [], ◌∷◌, ◌++◌, Option, map, sym, ap, ◌∙◌, subst, append-nil}
use Rattle.std.specs.List.{flat_map}
use Rattle.std.specs.Io.KnownBytes.{Appends}
use Rattle.std.proofs.KnownBytes.{Appends-nil, Appends-trans}
use Rattle.std.proofs.lemmas.Grind.{flat_map-append}
use Rattle.std.proofs.lemmas.List.{map-append}
use Rattle.serde_json.specs.Data.{Data}
use Rattle.serde_json.specs.View.{view}
use Rattle.serde_json.specs.declared.value.Value.{Value}
use Rattle.og_lsp_frame.specs.Front.{message_text}
use Rattle.og_lsp_server.specs.Output.{IsBodyOf, AreBodiesOf, Writes}

-- nothing
pub writes_none : (a : Option (List ℕ)) → Writes [] a a
writes_none a = ([], tt, Appends-nil a)

one_more_body : (ds : List Data) (bodies : List (List ℕ)) (d : Data) (body : List ℕ) → AreBodiesOf ds bodies → IsBodyOf d body → AreBodiesOf (ds ++ d ∷ []) (bodies ++ body ∷ [])
one_more_body [] [] d body these this = (this, tt)
one_more_body [] (b ∷ bodies) d body these this = absurd these
one_more_body (e ∷ ds) [] d body these this = absurd these
one_more_body (e ∷ ds) (b ∷ bodies) d body these this = (these.0, one_more_body ds bodies d body these.1 this)

-- one message more
pub writes_more : (ds : List Data) (d : Data) (body : List ℕ) (a b c : Option (List ℕ)) → Writes ds a b → IsBodyOf d body → Appends b c (message_text body) → Writes (ds ++ d ∷ []) a c
writes_more ds d body a b c (bodies, these, written) this next =
    let joined : flat_map message_text bodies ++ message_text body ≡ flat_map message_text (bodies ++ body ∷ []) =
    sym (flat_map-append message_text bodies (body ∷ []) ∙ ap (λ (z : List ℕ). flat_map message_text bodies ++ z) (append-nil (message_text body))) in
    (bodies ++ body ∷ [], one_more_body ds bodies d body these this, subst (Appends a c) joined (Appends-trans a b c (flat_map message_text bodies) (message_text body) written next))

-- and the same of values
pub writes_turn : (values : List Value) (value : Value) (text lent : List ℕ) (a b c : Option (List ℕ)) → Writes (map view values) a b → IsBodyOf (view value) text → lent ≡ text → Appends b c (message_text lent)
    → Writes (map view (values ++ value ∷ [])) a c
writes_turn values value text lent a b c written this same next =
    subst (λ ds. Writes ds a c) (sym (map-append view values (value ∷ [])))
    (writes_more (map view values) (view value) text a b c written this (subst (λ z. Appends b c (message_text z)) same next))
