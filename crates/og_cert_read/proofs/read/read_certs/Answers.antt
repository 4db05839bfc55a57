use Rattle.std.proofs.Common.{length, arith}
use Rattle.og_cert_text.specs.Text.{One, Two, version_text}
use Rattle.og_cert_read.proofs.Headers.{too_long, not_long, front_of, rest_few, file_read, no_version}
use Rattle.og_cert_read.proofs.read.read_certs.Goals as goal

pub returns-then-text-gt-TEXT_LIMIT : goal.returns-then-text-gt-TEXT_LIMIT
returns-then-text-gt-TEXT_LIMIT c = too_long (length c.args.text.now) (omega (arith, c.if-text-gt-TEXT_LIMIT.true))

pub read_rest-requires : goal.read_rest-requires
read_rest-requires c =
    rest_few (version_text One) c.args.text.now c.in-Some.rest.now (front_of (version_text One) c.args.text.now c.after.result c.in-Some.rest c.after.ensures c.in-Some.is)
    (omega (arith, c.if-text-gt-TEXT_LIMIT.false))

pub returns-in-Some : goal.returns-in-Some
returns-in-Some c =
    file_read One c.args.text.now c.in-Some.rest.now c.read_rest.result (omega (arith, c.if-text-gt-TEXT_LIMIT.false))
    (front_of (version_text One) c.args.text.now c.after.result c.in-Some.rest c.after.ensures c.in-Some.is) c.read_rest.ensures.file c.read_rest.ensures.memory

pub read_rest-requires-in-Some-after : goal.read_rest-requires-in-Some-after
read_rest-requires-in-Some-after c =
    rest_few (version_text Two) c.args.text.now c.in-Some-after.rest.now (front_of (version_text Two) c.args.text.now c.after-2.result c.in-Some-after.rest c.after-2.ensures c.in-Some-after.is)
    (omega (arith, c.if-text-gt-TEXT_LIMIT.false))

pub returns-in-Some-after : goal.returns-in-Some-after
returns-in-Some-after c =
    file_read Two c.args.text.now c.in-Some-after.rest.now c.read_rest-in-Some-after.result (omega (arith, c.if-text-gt-TEXT_LIMIT.false))
    (front_of (version_text Two) c.args.text.now c.after-2.result c.in-Some-after.rest c.after-2.ensures c.in-Some-after.is) c.read_rest-in-Some-after.ensures.file c.read_rest-in-Some-after.ensures.memory

pub returns : goal.returns
returns c = (
  not_long (length c.args.text.now) (omega (arith, c.if-text-gt-TEXT_LIMIT.false)),
  no_version c.args.text.now c.after.result c.after-2.result c.after.ensures c.in_default.is c.after-2.ensures c.in_default-after.is,
)
