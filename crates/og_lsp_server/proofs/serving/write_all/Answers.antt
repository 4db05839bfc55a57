use Rattle.og_lsp_server.proofs.Bodies.{writes_none, writes_turn}
use Rattle.og_lsp_server.proofs.serving.write_all.Goals as goal

pub loop-value-init : goal.loop-value-init
loop-value-init g c = writes_none (g.W.Write.contents c.args.out.now)

pub loop-value-preserved : goal.loop-value-preserved
loop-value-preserved g c =
    let held = g.W.Write.contents in
    writes_turn c.loop-value.yielded c.in-Some.value c.in_ok-body.body.items c.deref.result.now (held c.args.out.now) (held c.loop-value.out) (held c.write_message.new.out) c.loop-value.invariant
    (record { text = c.in_ok-body.ensures.text; reads_back = c.in_ok-body.ensures.reads_back }) c.deref.ensures.value c.in_ok-write_message.ensures.written

pub loop-value-preserved-in_ok-write_message : goal.loop-value-preserved-in_ok-write_message
loop-value-preserved-in_ok-write_message g c =
    let held = g.W.Write.contents in
    writes_turn c.loop-value.yielded c.in-Some.value c.in_ok-body.body.items c.deref.result.now (held c.args.out.now) (held c.loop-value.out) (held c.write_message.new.out) c.loop-value.invariant
    (record { text = c.in_ok-body.ensures.text; reads_back = c.in_ok-body.ensures.reads_back }) c.deref.ensures.value c.in_ok-write_message.ensures.written

pub loop-value-preserved-in_ok-write_message-2 : goal.loop-value-preserved-in_ok-write_message-2
loop-value-preserved-in_ok-write_message-2 g c =
    let held = g.W.Write.contents in
    writes_turn c.loop-value.yielded c.in-Some.value c.in_ok-body.body.items c.deref.result.now (held c.args.out.now) (held c.loop-value.out) (held c.write_message.new.out) c.loop-value.invariant
    (record { text = c.in_ok-body.ensures.text; reads_back = c.in_ok-body.ensures.reads_back }) c.deref.ensures.value c.in_ok-write_message.ensures.written

pub loop-value-preserved-in_ok-write_message-3 : goal.loop-value-preserved-in_ok-write_message-3
loop-value-preserved-in_ok-write_message-3 g c =
    let held = g.W.Write.contents in
    writes_turn c.loop-value.yielded c.in-Some.value c.in_ok-body.body.items c.deref.result.now (held c.args.out.now) (held c.loop-value.out) (held c.write_message.new.out) c.loop-value.invariant
    (record { text = c.in_ok-body.ensures.text; reads_back = c.in_ok-body.ensures.reads_back }) c.deref.ensures.value c.in_ok-write_message.ensures.written
