-- Notifications that are added.
use Rattle.std.proofs.Common.{◌≡◌, ℕ, List, [], ◌∷◌, ◌++◌, sym, ap, ◌∙◌, refl, append-nil, append_assoc}
use Rattle.std.specs.List.{AllByRecursion}
use Rattle.serde_json.specs.Data.{Data}
use Rattle.og_lsp_message.specs.Answers.{notification_data}
use Rattle.og_lsp_server.specs.Replies.{IsNotification, AddsNotifications}

-- nothing
pub adds_none : (old : List Data) → AddsNotifications old old
adds_none old = ([], tt, sym (append-nil old))

pub adds_same : (old new : List Data) → new ≡ old → AddsNotifications old new
adds_same old new e = ([], tt, e ∙ sym (append-nil old))

-- one
pub adds_one : (old new : List Data) (method : List ℕ) (params : Data) → new ≡ old ++ notification_data method params ∷ [] → AddsNotifications old new
adds_one old new method params e = (notification_data method params ∷ [], ((method, params, refl), tt), e)

all_both : (xs ys : List Data) → AllByRecursion IsNotification xs → AllByRecursion IsNotification ys → AllByRecursion IsNotification (xs ++ ys)
all_both [] ys these those = those
all_both (x ∷ xs) ys these those = (these.0, all_both xs ys these.1 those)

-- some and then others
pub adds_more : (old mid new : List Data) → AddsNotifications old mid → AddsNotifications mid new → AddsNotifications old new
adds_more old mid new (xs, these, e) (ys, those, k) =
    (xs ++ ys, all_both xs ys these those, k ∙ ap (λ (z : List Data). z ++ ys) e ∙ append_assoc old xs ys)
