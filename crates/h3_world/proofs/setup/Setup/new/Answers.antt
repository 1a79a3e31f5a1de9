-- Each side was announced by its configuration, and takes what the other one announces.
use Rattle.std.proofs.Common.{rules, sym}
use Rattle.h3_world.specs.MadeLaws.{is_made}
use Rattle.h3_world.specs.TakesLaws.{setup_made}
use Rattle.h3_world.proofs.setup.Setup.new.Goals as goal

pub invariant_of-result : goal.invariant_of-result
invariant_of-result c =
    setup_made (record { client = c.in_ok-client.client; server = c.in_ok-server.server })
    (is_made c.args.client c.args.client_limits c.args.client_grease c.in_ok-client.client c.requires.client_number (sym c.in_ok-client.ensures))
    (is_made c.args.server c.args.server_limits c.args.server_grease c.in_ok-server.server c.requires.server_number (sym c.in_ok-server.ensures)) (search rules)
