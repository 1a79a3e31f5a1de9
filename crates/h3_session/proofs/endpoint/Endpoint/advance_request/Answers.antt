use Rattle.std.proofs.Common.{sym, ◌∙◌}
use Rattle.h3_session.proofs.Taking.{advances_request}
use Rattle.h3_session.proofs.endpoint.Endpoint.advance_request.Goals as goal

pub returns-clause-there : goal.returns-clause-there
returns-clause-there c = λ is. advances_request _ _ _ _ _ c.self.view_is (sym c.advance.ensures.found ∙ is) c.advance.ensures.there
