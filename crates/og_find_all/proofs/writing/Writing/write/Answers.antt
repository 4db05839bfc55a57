use Rattle.std.proofs.Common.{ℕ, List, subst, vec_len}
use Rattle.std.specs.Io.KnownBytes.{Appends}
use Rattle.og_find_all.specs.Texts.{lines_from}
use Rattle.og_find_all.proofs.Texts.{whole_text}
use Rattle.og_io.specs.Written.{AppendsFront}
use Rattle.og_io.proofs.Passing.{failed, nothing_yet, made_front, whole_written, last_stopped}
use Rattle.og_find_all.proofs.writing.Writing.write.Goals as goal

pub returns-clause-written : goal.returns-clause-written
returns-clause-written g c =
    let f = c.args.self.now.findings.now in
    let is = whole_text f c.in_ok-text.text.items c.in_ok-text.ensures.items in
    let last = subst (λ (t : List ℕ). Appends (g.W.Write.contents c.write_entries.new.out) (g.W.Write.contents c.write_whole.new.out) t) c.deref.ensures.value c.in_ok-write_whole.ensures.written in
    whole_written _ _ _ c.in_ok-text.text.items _ (lines_from f 0 (vec_len f.own)) _ is c.in_ok-write_entries.ensures.written last

pub returns-in_err-text-clause-unfinished : goal.returns-in_err-text-clause-unfinished
returns-in_err-text-clause-unfinished g c = failed _ _ (nothing_yet _ _)

pub returns-in_err-write_entries-clause-unfinished : goal.returns-in_err-write_entries-clause-unfinished
returns-in_err-write_entries-clause-unfinished g c =
    let f = c.args.self.now.findings.now in
    let is = whole_text f c.in_ok-text.text.items c.in_ok-text.ensures.items in
    failed _ _ (made_front (g.W.Write.contents c.args.out.now) (g.W.Write.contents c.write_entries.new.out) _ _ is c.in_err-write_entries.ensures.unfinished)

pub returns-in_err-write_whole-clause-unfinished : goal.returns-in_err-write_whole-clause-unfinished
returns-in_err-write_whole-clause-unfinished g c =
    let f = c.args.self.now.findings.now in
    let is = whole_text f c.in_ok-text.text.items c.in_ok-text.ensures.items in
    let last = subst (λ (t : List ℕ). AppendsFront (g.W.Write.contents c.write_entries.new.out) (g.W.Write.contents c.write_whole.new.out) t) c.deref.ensures.value c.in_err-write_whole.ensures.unfinished in
    failed _ _ (last_stopped _ _ _ c.in_ok-text.text.items _ (lines_from f 0 (vec_len f.own)) _ is c.in_ok-write_entries.ensures.written last)
