use Rattle.std.proofs.Common.{◌≡◌, ◌∙◌, ◌++◌, ap, List, ℕ, map}
use Rattle.std.specs.Borrow.{Bor}
use Rattle.clap.specs.Words.{found_of}
use Rattle.og_words.proofs.Read.{texts_read}
use Rattle.og_words.proofs.words.texts_of.Goals as goal
use Rattle.og_words.proofs.words.texts_of.Goals.{in-Some+in_ok-extend_from_slice, in_default}

pub returns : goal.returns
returns c =
    let read = texts_read (found_of c.args.m.now) c.args.name.now c.get_strs.result c.get_strs.ensures in
    elim c.match-get_strs.branch [
      | in-Some+in_ok-extend_from_slice w ↦
          let items : c.match-get_strs.texts.items ≡ w.in-Some.words.now =
          ap (λ v. v.items) w.texts-is ∙ w.in_ok-extend_from_slice.ensures.items ∙ ap (λ (l : List (Bor (List ℕ))). l ++ w.in-Some.words.now) c.new-texts.ensures.items in
          ap (map (λ (v : Bor (List ℕ)). v.now)) items ∙ rw w.in-Some.is at read
      | in_default w ↦
          ap (λ v. map (λ (s : Bor (List ℕ)). s.now) v.items) w.texts-is ∙ (ap (map (λ (s : Bor (List ℕ)). s.now)) c.new-texts.ensures.items ∙ rw w.in_default.is at read)
    ]
