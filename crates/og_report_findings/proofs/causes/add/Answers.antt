use Rattle.std.proofs.Common.{◌≡◌, ◌∙◌, ℕ, ◌+◌, ◌<◌, length, map, Some, None, ap, sym, arith}
use Rattle.std.proofs.lemmas.List.{length-map}
use Rattle.std.proofs.lemmas.Result.{on_ok_weaker}
use Rattle.og_cert_read.specs.Firsts.{found}
use Rattle.og_report_prove.specs.Together.{key_seen}
use Rattle.og_report_findings.specs.Causes.{item_of, groups_of, cause_of, place_from}
use Rattle.og_report_findings.proofs.Groups.{within, joins, joins_known, begins, begins_known, alone_known}
use Rattle.og_report_findings.proofs.causes.add.Goals as goal

pub returns-in_default-clause-known : goal.returns-in_default-clause-known
returns-in_default-clause-known c =
    let names = c.args.page.names.now in
    let source = c.args.page.origins.now.source.now in
    let rows = c.args.page.origins.now.rows in
    let i = item_of c.args.item in
    let gs = groups_of c.args.groups.now.items in
    let none : cause_of names source rows i.entry.diagnosis ≡ None = sym c.in_ok-cause.ensures ∙ ap key_seen c.in_default.is in
    on_ok_weaker c.begin.result (λ at. alone_known names source rows (λ t. found t c.args.firsts.now) i gs (groups_of c.begin.new.groups.items) c.requires.known none at) c.begin.ensures

pub overflow_cast-number : goal.overflow_cast-number
overflow_cast-number c =
    let names = c.args.page.names.now in
    let source = c.args.page.origins.now.source.now in
    let rows = c.args.page.origins.now.rows in
    let i = item_of c.args.item in
    let gs = groups_of c.args.groups.now.items in
    let text = c.in-Some.cause.items in
    let number = c.in-Some-2.number in
    let has : found text c.args.firsts.now ≡ Some number = sym c.in_ok-number.ensures.found ∙ c.in-Some-2.is in
    let at : place_from names source rows 0 text gs ≡ Some number = sym (c.requires.known text) ∙ has in
    let same : number ≡ 0 + number = omega arith in
    let inside : number < length gs = within names source rows text 0 number gs (at ∙ ap (λ (m : ℕ). Some m) same) in
    let mapped : length gs ≡ length c.args.groups.now.items = length-map c.args.groups.now.items (λ g. map item_of g.items) in
    let ok = c.args.groups.now.ok in
    let small = c.args.groups.now.small in
    omega (arith, inside, mapped, ok, small)

pub join-requires : goal.join-requires
join-requires c =
    let names = c.args.page.names.now in
    let source = c.args.page.origins.now.source.now in
    let rows = c.args.page.origins.now.rows in
    let i = item_of c.args.item in
    let gs = groups_of c.args.groups.now.items in
    let text = c.in-Some.cause.items in
    let number = c.in-Some-2.number in
    let has : found text c.args.firsts.now ≡ Some number = sym c.in_ok-number.ensures.found ∙ c.in-Some-2.is in
    let at : place_from names source rows 0 text gs ≡ Some number = sym (c.requires.known text) ∙ has in
    let same : number ≡ 0 + number = omega arith in
    let inside : number < length gs = within names source rows text 0 number gs (at ∙ ap (λ (m : ℕ). Some m) same) in
    let mapped : length gs ≡ length c.args.groups.now.items = length-map c.args.groups.now.items (λ g. map item_of g.items) in
    omega (arith, inside, mapped)

pub returns-in-Some-2-clause-groups : goal.returns-in-Some-2-clause-groups
returns-in-Some-2-clause-groups c =
    let names = c.args.page.names.now in
    let source = c.args.page.origins.now.source.now in
    let rows = c.args.page.origins.now.rows in
    let i = item_of c.args.item in
    let gs = groups_of c.args.groups.now.items in
    let text = c.in-Some.cause.items in
    let is : cause_of names source rows i.entry.diagnosis ≡ Some text = sym c.in_ok-cause.ensures ∙ ap key_seen c.in-Some.is in
    let number = c.in-Some-2.number in
    let has : found text c.args.firsts.now ≡ Some number = sym c.in_ok-number.ensures.found ∙ c.in-Some-2.is in
    let at : place_from names source rows 0 text gs ≡ Some number = sym (c.requires.known text) ∙ has in
    let cause = cause_of names source rows i.entry.diagnosis in
    on_ok_weaker c.join.result (λ next. next ∙ joins names source rows text cause i number gs is at) c.join.ensures

pub returns-in-Some-2-clause-known : goal.returns-in-Some-2-clause-known
returns-in-Some-2-clause-known c =
    let names = c.args.page.names.now in
    let source = c.args.page.origins.now.source.now in
    let rows = c.args.page.origins.now.rows in
    let i = item_of c.args.item in
    let gs = groups_of c.args.groups.now.items in
    let text = c.in-Some.cause.items in
    let number = c.in-Some-2.number in
    let has : found text c.args.firsts.now ≡ Some number = sym c.in_ok-number.ensures.found ∙ c.in-Some-2.is in
    let at : place_from names source rows 0 text gs ≡ Some number = sym (c.requires.known text) ∙ has in
    on_ok_weaker c.join.result
    (λ next. joins_known names source rows (λ t. found t c.args.firsts.now) (λ t. found t c.number_or_add.new.firsts) text i number c.len.result gs (groups_of c.join.new.groups.items)
    c.requires.known c.in_ok-number.ensures.firsts has next)
    c.join.ensures

pub returns-in-None-clause-groups : goal.returns-in-None-clause-groups
returns-in-None-clause-groups c =
    let names = c.args.page.names.now in
    let source = c.args.page.origins.now.source.now in
    let rows = c.args.page.origins.now.rows in
    let i = item_of c.args.item in
    let gs = groups_of c.args.groups.now.items in
    let text = c.in-Some.cause.items in
    let is : cause_of names source rows i.entry.diagnosis ≡ Some text = sym c.in_ok-cause.ensures ∙ ap key_seen c.in-Some.is in
    let lacks : found text c.args.firsts.now ≡ None = sym c.in_ok-number.ensures.found ∙ c.in-None.is in
    let none : place_from names source rows 0 text gs ≡ None = sym (c.requires.known text) ∙ lacks in
    let cause = cause_of names source rows i.entry.diagnosis in
    on_ok_weaker c.begin-in-None.result (λ next. next ∙ begins names source rows text cause i gs is none) c.begin-in-None.ensures

pub returns-in-None-clause-known : goal.returns-in-None-clause-known
returns-in-None-clause-known c =
    let names = c.args.page.names.now in
    let source = c.args.page.origins.now.source.now in
    let rows = c.args.page.origins.now.rows in
    let i = item_of c.args.item in
    let gs = groups_of c.args.groups.now.items in
    let text = c.in-Some.cause.items in
    let is : cause_of names source rows i.entry.diagnosis ≡ Some text = sym c.in_ok-cause.ensures ∙ ap key_seen c.in-Some.is in
    let mapped : length gs ≡ length c.args.groups.now.items = length-map c.args.groups.now.items (λ g. map item_of g.items) in
    let ok = c.args.groups.now.ok in
    let len = c.len.ensures in
    let count : c.len.result ≡ length gs = omega (arith, mapped, ok, len) in
    on_ok_weaker c.begin-in-None.result
    (λ next. begins_known names source rows (λ t. found t c.args.firsts.now) (λ t. found t c.number_or_add.new.firsts) text i c.len.result gs (groups_of c.begin-in-None.new.groups.items)
    c.requires.known c.in_ok-number.ensures.firsts is count next)
    c.begin-in-None.ensures
