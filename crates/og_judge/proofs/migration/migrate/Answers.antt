use Rattle.og_cert_text.specs.Shown.{shown}
use Rattle.og_judge.proofs.Migrating.{migrated, alike}
use Rattle.og_judge.proofs.migration.migrate.Goals as goal

pub returns-clause-same : goal.returns-clause-same
returns-clause-same c =
    let laws = c.reading_laws.ensures in
    let given = c.args.certs.now in
    let text = c.in_ok-write_certs_2.field-0.items in
    alike given text laws.one laws.given
    (migrated given text (shown c.in_ok-file.file) laws.shared laws.shortest c.follows_limits.ensures c.in_ok-file.ensures c.in_ok-write_certs_2.ensures)
