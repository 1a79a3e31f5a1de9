use Rattle.std.proofs.Common.{ap, ℕ, List, length, ◌∙◌}
use Rattle.std.specs.Prelude.{min}
use Rattle.h3_session.proofs.Taking.{advances_own}
use Rattle.h3_session.proofs.endpoint.Endpoint.advance_own.Goals as goal

pub returns : goal.returns
returns c =
    advances_own _ _ _ _ _ _ c.self.view_is (c.min.ensures ∙ ap (λ (bytes : List ℕ). min c.args.count (length bytes)) c.own_outgoing-waiting.ensures) c.requires
    c.take_own.ensures
