-- What came is asked ahead, since both calls leave it as it is.
use Rattle.std.proofs.Common.{◌∙◌, sym}
use Rattle.h3_session.proofs.Closing.{closes}
use Rattle.h3_session.proofs.endpoint.Endpoint.close_stream.Goals as goal

pub returns : goal.returns
returns c =
    closes c.args.self.now c.cancel-canceled.new.self c.reset-reset.new.self c.args.id c.arrival_refusal-arrival.result c.cancel-canceled.result c.reset-reset.result c.is_none.result c.is_ok.result
    c.arrival_refusal-arrival.ensures.history c.cancel-canceled.ensures (sym c.in_default.is ∙ c.unless_ended.ensures) c.reset-reset.ensures c.is_none.ensures c.is_ok.ensures.value
