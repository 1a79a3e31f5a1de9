use Rattle.std.proofs.Common.{◌<◌, length, arith, sym, ◌∙◌, ap, ap₂, subst, refl, Ok, Err, Some, None}
use Rattle.std.specs.List.{concat}
use Rattle.std.proofs.lemmas.List.{nil_from_length}
use Rattle.h3_wire.specs.Source.{coming}
use Rattle.h3_wire.specs.Given.{AddsPieces}
use Rattle.h3_wire.proofs.GivenPieces.{adds_passes, passes_then, rest_passes}
use Rattle.h3_frames.specs.PieceLaws.{ending_rest}
use Rattle.h3_frames.specs.Tries.{Expects}
use Rattle.h3_frames.specs.TryLaws.{Awaits-more}
use Rattle.h3_wire.specs.Streams.{Framing}
use Rattle.h3_wire.specs.declared.quic.Poll.TheVariants.{Ready, Pending}
use Rattle.h3_frames.specs.declared.frame.errors.FrameStreamError.TheVariants as stream
use Rattle.h3_wire.specs.declared.stream.Received.TheVariants as received
use Rattle.h3_wire.specs.Asking.{answers_with}
use Rattle.h3_wire.proofs.Rounds.{round, round_fails, some_at_end, none_at_end}
use Rattle.h3_wire.proofs.TakenFrames.{taken, taken_fewer, polls_end, polls_error, polls_frame, polls_same}
use Rattle.h3_wire.proofs.frame.FrameStream.read_frame.Goals as goal
use Rattle.h3_frames.specs.Frames.{plain_frames}

pub invariant_of-self : goal.invariant_of-self
invariant_of-self g c =
    let more = c.receive.ensures.grows in
    (subst (λ l. Expects plain_frames c.self.inside.decoder l) (sym more.1) (Awaits-more plain_frames c.self.inside.decoder.expected c.self.inside.decoder.tries (concat c.self.inside.stream.pieces) more.0 c.self.invariant.0), c.self.invariant.1)

pub take_frame-requires : goal.take_frame-requires
take_frame-requires g c =
    let more = c.receive.ensures.grows in
    record { expects = subst (λ l. Expects plain_frames c.self.inside.decoder l) (sym more.1) (Awaits-more plain_frames c.self.inside.decoder.expected c.self.inside.decoder.tries (concat c.self.inside.stream.pieces) more.0 c.self.invariant.0) }

pub returns-in-Err-take_frame-clause-polls : goal.returns-in-Err-take_frame-clause-polls
returns-in-Err-take_frame-clause-polls g c =
    let rest = g.S.RecvStream.rest in
    let new : Framing g.row.S.Denot = record { pieces = c.take_frame.new.self.pieces; source = c.take_frame.new.self.source; is_eos = c.take_frame.new.self.is_eos; payload = c.self.inside.payload; decoder = c.take_frame.new.decoder } in
    let t = taken rest c.args.self.now _ new c.receive.new.self c.take_frame.new.self c.self.view_is c.receive.ensures.all c.take_frame.ensures.source c.take_frame.ensures.is_eos refl refl refl in
    polls_error rest g.S.RecvStream.answers c.args.self.now new _ _ c.in-Err-take_frame.e t c.in-Err-take_frame.ensures.gives (ap (λ (x : Framing g.row.S.Denot). x.payload) c.self.view_is)

pub returns-in-Err-take_frame-clause-fewer : goal.returns-in-Err-take_frame-clause-fewer
returns-in-Err-take_frame-clause-fewer g c =
    let rest = g.S.RecvStream.rest in
    let new : Framing g.row.S.Denot = record { pieces = c.take_frame.new.self.pieces; source = c.take_frame.new.self.source; is_eos = c.take_frame.new.self.is_eos; payload = c.self.inside.payload; decoder = c.take_frame.new.decoder } in
    let t = taken rest c.args.self.now _ new c.receive.new.self c.take_frame.new.self c.self.view_is c.receive.ensures.all c.take_frame.ensures.source c.take_frame.ensures.is_eos refl refl refl in
    taken_fewer rest c.args.self.now new _ _ c.take_frame.result t c.take_frame.ensures.gives

pub returns-in-Ok-Some-clause-polls : goal.returns-in-Ok-Some-clause-polls
returns-in-Ok-Some-clause-polls g c =
    let rest = g.S.RecvStream.rest in
    let new : Framing g.row.S.Denot = record { pieces = c.take_frame.new.self.pieces; source = c.take_frame.new.self.source; is_eos = c.take_frame.new.self.is_eos; payload = c.payload_of-self-inside.result; decoder = c.take_frame.new.decoder } in
    let t = taken rest c.args.self.now _ new c.receive.new.self c.take_frame.new.self c.self.view_is c.receive.ensures.all c.take_frame.ensures.source c.take_frame.ensures.is_eos refl refl refl in
    (polls_frame rest c.args.self.now new _ _ c.in-Ok-Some.frame t (rw c.in-Ok-Some.field-0-is at c.in-Ok-Some.ensures.gives), c.payload_of-self-inside.ensures)

pub returns-in-Ok-Some-clause-fewer : goal.returns-in-Ok-Some-clause-fewer
returns-in-Ok-Some-clause-fewer g c =
    let rest = g.S.RecvStream.rest in
    let new : Framing g.row.S.Denot = record { pieces = c.take_frame.new.self.pieces; source = c.take_frame.new.self.source; is_eos = c.take_frame.new.self.is_eos; payload = c.payload_of-self-inside.result; decoder = c.take_frame.new.decoder } in
    let t = taken rest c.args.self.now _ new c.receive.new.self c.take_frame.new.self c.self.view_is c.receive.ensures.all c.take_frame.ensures.source c.take_frame.ensures.is_eos refl refl refl in
    taken_fewer rest c.args.self.now new _ _ c.take_frame.result t c.take_frame.ensures.gives

pub returns-in-More-clause-polls : goal.returns-in-More-clause-polls
returns-in-More-clause-polls g c =
    let rest = g.S.RecvStream.rest in
    let new : Framing g.row.S.Denot = record { pieces = c.take_frame.new.self.pieces; source = c.take_frame.new.self.source; is_eos = c.take_frame.new.self.is_eos; payload = c.self.inside.payload; decoder = c.take_frame.new.decoder } in
    let t = taken rest c.args.self.now _ new c.receive.new.self c.take_frame.new.self c.self.view_is c.receive.ensures.all c.take_frame.ensures.source c.take_frame.ensures.is_eos refl refl refl in
    let less = rw c.in-More.is at c.in-Ok.ensures.tells in
    let here = ap (λ (x : Framing g.row.S.Denot). length (coming x.is_eos (rest x.source))) c.self.view_is in
    let there = ap₂ (λ t x. length (coming t (rest x))) c.take_frame.ensures.is_eos c.take_frame.ensures.source in
    (polls_same rest c.args.self.now new _ _ t (rw c.in-Ok-None.field-0-is at c.in-Ok-None.ensures.gives), omega (arith, less.0, here, there), ap (λ (x : Framing g.row.S.Denot). x.payload) c.self.view_is, c.take_frame.ensures.is_eos ∙ less.1 ∙ ap (λ (x : Framing g.row.S.Denot). x.is_eos) c.self.view_is)

pub returns-in-More-clause-fewer : goal.returns-in-More-clause-fewer
returns-in-More-clause-fewer g c =
    let rest = g.S.RecvStream.rest in
    let new : Framing g.row.S.Denot = record { pieces = c.take_frame.new.self.pieces; source = c.take_frame.new.self.source; is_eos = c.take_frame.new.self.is_eos; payload = c.self.inside.payload; decoder = c.take_frame.new.decoder } in
    let t = taken rest c.args.self.now _ new c.receive.new.self c.take_frame.new.self c.self.view_is c.receive.ensures.all c.take_frame.ensures.source c.take_frame.ensures.is_eos refl refl refl in
    taken_fewer rest c.args.self.now new _ _ c.take_frame.result t c.take_frame.ensures.gives

pub returns-in-Nothing-clause-polls : goal.returns-in-Nothing-clause-polls
returns-in-Nothing-clause-polls g c =
    let rest = g.S.RecvStream.rest in
    let new : Framing g.row.S.Denot = record { pieces = c.take_frame.new.self.pieces; source = c.take_frame.new.self.source; is_eos = c.take_frame.new.self.is_eos; payload = c.self.inside.payload; decoder = c.take_frame.new.decoder } in
    let t = taken rest c.args.self.now _ new c.receive.new.self c.take_frame.new.self c.self.view_is c.receive.ensures.all c.take_frame.ensures.source c.take_frame.ensures.is_eos refl refl refl in
    let gives = rw c.in-Ok-None.field-0-is at c.in-Ok-None.ensures.gives in
    let told = rw c.in-Nothing.is at c.in-Ok.ensures.tells in
    (polls_same rest c.args.self.now new _ _ t gives, gives.1, (told.0, subst (λ x. g.S.RecvStream.answers told.0 Pending x) (sym c.take_frame.ensures.source) told.1), ap (λ (x : Framing g.row.S.Denot). x.payload) c.self.view_is)

pub returns-in-Nothing-clause-fewer : goal.returns-in-Nothing-clause-fewer
returns-in-Nothing-clause-fewer g c =
    let rest = g.S.RecvStream.rest in
    let new : Framing g.row.S.Denot = record { pieces = c.take_frame.new.self.pieces; source = c.take_frame.new.self.source; is_eos = c.take_frame.new.self.is_eos; payload = c.self.inside.payload; decoder = c.take_frame.new.decoder } in
    let t = taken rest c.args.self.now _ new c.receive.new.self c.take_frame.new.self c.self.view_is c.receive.ensures.all c.take_frame.ensures.source c.take_frame.ensures.is_eos refl refl refl in
    taken_fewer rest c.args.self.now new _ _ c.take_frame.result t c.take_frame.ensures.gives

pub returns-then-remaining-gt0-clause-fewer : goal.returns-then-remaining-gt0-clause-fewer
returns-then-remaining-gt0-clause-fewer g c =
    let rest = g.S.RecvStream.rest in
    let new : Framing g.row.S.Denot = record { pieces = c.take_frame.new.self.pieces; source = c.take_frame.new.self.source; is_eos = c.take_frame.new.self.is_eos; payload = c.self.inside.payload; decoder = c.take_frame.new.decoder } in
    let t = taken rest c.args.self.now _ new c.receive.new.self c.take_frame.new.self c.self.view_is c.receive.ensures.all c.take_frame.ensures.source c.take_frame.ensures.is_eos refl refl refl in
    taken_fewer rest c.args.self.now new _ _ c.take_frame.result t c.take_frame.ensures.gives

pub returns-in-Err-clause-pieces : goal.returns-in-Err-clause-pieces
returns-in-Err-clause-pieces g c = adds_passes g.S.RecvStream.answers _ _ _ _ (subst (λ (x : Framing g.row.S.Denot). AddsPieces g.S.RecvStream.answers x.source x.pieces c.receive.new.self.source c.receive.new.self.pieces) c.self.view_is c.receive.ensures.pieces)

pub returns-in-Err-take_frame-clause-pieces : goal.returns-in-Err-take_frame-clause-pieces
returns-in-Err-take_frame-clause-pieces g c =
    let answers = g.S.RecvStream.answers in
    let read = subst (λ (x : Framing g.row.S.Denot). AddsPieces g.S.RecvStream.answers x.source x.pieces c.receive.new.self.source c.receive.new.self.pieces) c.self.view_is c.receive.ensures.pieces in
    passes_then answers _ _ _ _ _ _ (adds_passes answers _ _ _ _ read) (rest_passes answers _ _ _ _ c.take_frame.ensures.source (ending_rest _ _ _ c.take_frame.ensures.pieces))

pub returns-in-Ok-Some-clause-pieces : goal.returns-in-Ok-Some-clause-pieces
returns-in-Ok-Some-clause-pieces g c =
    let answers = g.S.RecvStream.answers in
    let read = subst (λ (x : Framing g.row.S.Denot). AddsPieces g.S.RecvStream.answers x.source x.pieces c.receive.new.self.source c.receive.new.self.pieces) c.self.view_is c.receive.ensures.pieces in
    passes_then answers _ _ _ _ _ _ (adds_passes answers _ _ _ _ read) (rest_passes answers _ _ _ _ c.take_frame.ensures.source (ending_rest _ _ _ c.take_frame.ensures.pieces))

pub returns-in-More-clause-pieces : goal.returns-in-More-clause-pieces
returns-in-More-clause-pieces g c =
    let answers = g.S.RecvStream.answers in
    let read = subst (λ (x : Framing g.row.S.Denot). AddsPieces g.S.RecvStream.answers x.source x.pieces c.receive.new.self.source c.receive.new.self.pieces) c.self.view_is c.receive.ensures.pieces in
    passes_then answers _ _ _ _ _ _ (adds_passes answers _ _ _ _ read) (rest_passes answers _ _ _ _ c.take_frame.ensures.source (ending_rest _ _ _ c.take_frame.ensures.pieces))

pub returns-in-Nothing-clause-pieces : goal.returns-in-Nothing-clause-pieces
returns-in-Nothing-clause-pieces g c =
    let answers = g.S.RecvStream.answers in
    let read = subst (λ (x : Framing g.row.S.Denot). AddsPieces g.S.RecvStream.answers x.source x.pieces c.receive.new.self.source c.receive.new.self.pieces) c.self.view_is c.receive.ensures.pieces in
    passes_then answers _ _ _ _ _ _ (adds_passes answers _ _ _ _ read) (rest_passes answers _ _ _ _ c.take_frame.ensures.source (ending_rest _ _ _ c.take_frame.ensures.pieces))

pub returns-then-remaining-gt0-clause-pieces : goal.returns-then-remaining-gt0-clause-pieces
returns-then-remaining-gt0-clause-pieces g c =
    let answers = g.S.RecvStream.answers in
    let read = subst (λ (x : Framing g.row.S.Denot). AddsPieces g.S.RecvStream.answers x.source x.pieces c.receive.new.self.source c.receive.new.self.pieces) c.self.view_is c.receive.ensures.pieces in
    passes_then answers _ _ _ _ _ _ (adds_passes answers _ _ _ _ read) (rest_passes answers _ _ _ _ c.take_frame.ensures.source (ending_rest _ _ _ c.take_frame.ensures.pieces))

pub returns-in-End-clause-pieces : goal.returns-in-End-clause-pieces
returns-in-End-clause-pieces g c =
    let answers = g.S.RecvStream.answers in
    let read = subst (λ (x : Framing g.row.S.Denot). AddsPieces g.S.RecvStream.answers x.source x.pieces c.receive.new.self.source c.receive.new.self.pieces) c.self.view_is c.receive.ensures.pieces in
    passes_then answers _ _ _ _ _ _ (adds_passes answers _ _ _ _ read) (rest_passes answers _ _ _ _ c.take_frame.ensures.source (ending_rest _ _ _ c.take_frame.ensures.pieces))

pub returns-in-More-clause-round : goal.returns-in-More-clause-round
returns-in-More-clause-round g c = (received.More, Ok None, (round g.S.RecvStream.answers c.args.self.now _ received.More c.receive.new.self c.take_frame.new.self (Ok None) c.take_frame.new.decoder c.self.inside.payload c.self.view_is (rw c.in-More.is at c.in-Ok.ensures.asks) (record { gives = rw c.in-Ok-None.field-0-is at c.in-Ok-None.ensures.gives; counts = rw c.in-Ok-None.field-0-is at c.in-Ok-None.ensures.counts; pieces = c.take_frame.ensures.pieces; source = c.take_frame.ensures.source; is_eos = c.take_frame.ensures.is_eos }) refl), refl)

pub returns-in-Nothing-clause-round : goal.returns-in-Nothing-clause-round
returns-in-Nothing-clause-round g c = answers_with _ _ received.Nothing (Ok None) Pending (round g.S.RecvStream.answers c.args.self.now _ received.Nothing c.receive.new.self c.take_frame.new.self (Ok None) c.take_frame.new.decoder c.self.inside.payload c.self.view_is (rw c.in-Nothing.is at c.in-Ok.ensures.asks) (record { gives = rw c.in-Ok-None.field-0-is at c.in-Ok-None.ensures.gives; counts = rw c.in-Ok-None.field-0-is at c.in-Ok-None.ensures.counts; pieces = c.take_frame.ensures.pieces; source = c.take_frame.ensures.source; is_eos = c.take_frame.ensures.is_eos }) refl) refl

pub returns-then-remaining-gt0-clause-round : goal.returns-then-remaining-gt0-clause-round
returns-then-remaining-gt0-clause-round g c =
    answers_with _ _ received.End (Ok None) (Ready (Err stream.UnexpectedEnd)) (round g.S.RecvStream.answers c.args.self.now _ received.End c.receive.new.self c.take_frame.new.self (Ok None) c.take_frame.new.decoder c.self.inside.payload c.self.view_is (rw c.in-End.is at c.in-Ok.ensures.asks) (record { gives = rw c.in-Ok-None.field-0-is at c.in-Ok-None.ensures.gives; counts = rw c.in-Ok-None.field-0-is at c.in-Ok-None.ensures.counts; pieces = c.take_frame.ensures.pieces; source = c.take_frame.ensures.source; is_eos = c.take_frame.ensures.is_eos }) refl)
    (ap Some (some_at_end _ (subst (λ n. 0 < n) c.remaining.ensures c.if-remaining-gt0.true)))

pub returns-in-End-clause-round : goal.returns-in-End-clause-round
returns-in-End-clause-round g c =
    answers_with _ _ received.End (Ok None) (Ready (Ok None)) (round g.S.RecvStream.answers c.args.self.now _ received.End c.receive.new.self c.take_frame.new.self (Ok None) c.take_frame.new.decoder c.self.inside.payload c.self.view_is (rw c.in-End.is at c.in-Ok.ensures.asks) (record { gives = rw c.in-Ok-None.field-0-is at c.in-Ok-None.ensures.gives; counts = rw c.in-Ok-None.field-0-is at c.in-Ok-None.ensures.counts; pieces = c.take_frame.ensures.pieces; source = c.take_frame.ensures.source; is_eos = c.take_frame.ensures.is_eos }) refl)
    (ap Some (none_at_end _ (omega (arith, c.remaining.ensures, c.if-remaining-gt0.false))))

pub returns-in-Err-clause-round : goal.returns-in-Err-clause-round
returns-in-Err-clause-round g c = round_fails g.S.RecvStream.answers c.args.self.now _ c.receive.new.self c.in-Err.e c.self.view_is c.in-Err.ensures.asks

pub returns-in-Err-take_frame-clause-round : goal.returns-in-Err-take_frame-clause-round
returns-in-Err-take_frame-clause-round g c =
    answers_with _ _ c.in-Ok.received (Err c.in-Err-take_frame.e) (Ready (Err c.in-Err-take_frame.e)) (round g.S.RecvStream.answers c.args.self.now _ c.in-Ok.received c.receive.new.self c.take_frame.new.self (Err c.in-Err-take_frame.e) c.take_frame.new.decoder c.self.inside.payload c.self.view_is c.in-Ok.ensures.asks (record { gives = c.in-Err-take_frame.ensures.gives; counts = c.in-Err-take_frame.ensures.counts; pieces = c.take_frame.ensures.pieces; source = c.take_frame.ensures.source; is_eos = c.take_frame.ensures.is_eos }) refl) refl

pub returns-in-Ok-Some-clause-round : goal.returns-in-Ok-Some-clause-round
returns-in-Ok-Some-clause-round g c =
    answers_with _ _ c.in-Ok.received (Ok (Some c.in-Ok-Some.frame)) (Ready (Ok (Some c.in-Ok-Some.frame))) (round g.S.RecvStream.answers c.args.self.now _ c.in-Ok.received c.receive.new.self c.take_frame.new.self (Ok (Some c.in-Ok-Some.frame)) c.take_frame.new.decoder c.payload_of-self-inside.result c.self.view_is c.in-Ok.ensures.asks (record { gives = rw c.in-Ok-Some.field-0-is at c.in-Ok-Some.ensures.gives; counts = rw c.in-Ok-Some.field-0-is at c.in-Ok-Some.ensures.counts; pieces = c.take_frame.ensures.pieces; source = c.take_frame.ensures.source; is_eos = c.take_frame.ensures.is_eos }) c.payload_of-self-inside.ensures) refl

pub returns-in-End-clause-polls : goal.returns-in-End-clause-polls
returns-in-End-clause-polls g c =
    let rest = g.S.RecvStream.rest in
    let new : Framing g.row.S.Denot = record { pieces = c.take_frame.new.self.pieces; source = c.take_frame.new.self.source; is_eos = c.take_frame.new.self.is_eos; payload = c.self.inside.payload; decoder = c.take_frame.new.decoder } in
    let t = taken rest c.args.self.now _ new c.receive.new.self c.take_frame.new.self c.self.view_is c.receive.ensures.all c.take_frame.ensures.source c.take_frame.ensures.is_eos refl refl refl in
    let told = rw c.in-End.is at c.in-Ok.ensures.end in
    let none = ap (λ e. coming e (rest c.receive.new.self.source)) told in
    let p = polls_end rest c.args.self.now new _ _ t (rw c.in-Ok-None.field-0-is at c.in-Ok-None.ensures.gives) none in
    let nothing = p.2 ∙ nil_from_length (concat c.take_frame.new.self.pieces) (omega (arith, c.remaining.ensures, c.if-remaining-gt0.false)) in
    (sym p.0 ∙ nothing, nothing, c.take_frame.ensures.is_eos ∙ told, ap (λ (x : Framing g.row.S.Denot). x.payload) c.self.view_is)
