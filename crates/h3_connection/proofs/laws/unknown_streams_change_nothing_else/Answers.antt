use Rattle.std.proofs.Common.{ap, ◌∙◌}
use Rattle.std.specs.Prelude.{None}
use Rattle.h3_connection.specs.Endpoint.{kind_of}
use Rattle.h3_connection.specs.Delivering.{taken, bytes_at, delivery_refusal, read_unidirectional, unidirectional_at}
use Rattle.h3_connection.proofs.UnknownStreams.{without_from_new}
use Rattle.h3_connection.proofs.laws.unknown_streams_change_nothing_else.Goals as goal

pub returns-clause-bytes : goal.returns-clause-bytes
returns-clause-bytes c = λ e id bytes rest open_still kind accepted read_as.
    ap (λ closed. taken closed (delivery_refusal e id) e (bytes_at e id bytes (kind_of e.side id))) open_still
    ∙ ap (λ refused. taken None refused e (bytes_at e id bytes (kind_of e.side id))) accepted
    ∙ ap (λ k. taken None None e (bytes_at e id bytes k)) kind
    ∙ ap (λ heard. taken None None e (read_unidirectional e id (unidirectional_at e id) heard)) read_as

pub returns-clause-calls : goal.returns-clause-calls
returns-clause-calls c = without_from_new
