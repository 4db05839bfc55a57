use Rattle.std.proofs.Common.{◌≡◌, ◌∙◌, ◌+◌, ◌++◌, ℕ, List, Bool, Some, drop, ap, sym, append_assoc}
use Rattle.std.specs.Prelude.{slice_get}
use Rattle.std.proofs.lemmas.Option.{slice_get-get_or}
use Rattle.og_report_prove.proofs.Lists.{dropped}
use Rattle.og_report_html.specs.Escapes.{escaped, escaped_text}
use Rattle.og_report_html.proofs.escapes.put_escaped.Goals as goal

goes : (utf8 : Bool) (bytes : List ℕ) (i b : ℕ) (t0 t1 whole : List ℕ) → slice_get bytes i ≡ Some b → t1 ≡ t0 ++ escaped utf8 b
    → t0 ++ escaped_text utf8 (drop i bytes) ≡ whole → t1 ++ escaped_text utf8 (drop (i + 1) bytes) ≡ whole
goes utf8 bytes i b t0 t1 whole is put so_far =
    let rest = escaped_text utf8 (drop (i + 1) bytes) in
    ap (λ (l : List ℕ). l ++ rest) put
    ∙ append_assoc t0 (escaped utf8 b) rest
    ∙ ap (λ (l : List ℕ). t0 ++ escaped_text utf8 l) (sym (dropped bytes i b is))
    ∙ so_far

pub loop-byte-preserved : goal.loop-byte-preserved
loop-byte-preserved c =
    let bytes = c.args.bytes.now in
    let i = c.loop-byte.byte-index in
    goes c.args.utf8 bytes i _ c.loop-byte.text.items c.put_byte.new.text.items (c.args.text.now.items ++ escaped_text c.args.utf8 bytes)
    (slice_get-get_or bytes i _ c.loop-byte-test.true) c.in_ok-put_byte.ensures c.loop-byte.invariant
