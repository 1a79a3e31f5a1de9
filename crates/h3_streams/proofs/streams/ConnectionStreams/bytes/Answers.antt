use Rattle.std.proofs.Common.{sym, refl}
use Rattle.std.proofs.lemmas.Result.{IfOk-weaker, IfErr-weaker}
use Rattle.h3_connection.specs.Unidirectional.Role.{Control, Encoder, Decoder}
use Rattle.h3_streams.specs.ReadingOn.{left_arrivals}
use Rattle.h3_streams.proofs.ArrivedBytes.{untaken, nothing_read, push_read, session_read, role_read, role_stopped}
use Rattle.h3_streams.proofs.streams.ConnectionStreams.bytes.Goals as goal

pub returns-then-not-has_room-clause-err : goal.returns-then-not-has_room-clause-err
returns-then-not-has_room-clause-err c = untaken c.args.self.now c.args.self.now.unidirectional c.args.side c.args.own.now c.args.id c.args.bytes _ _ (record { each = λ q. refl }) refl c.of.ensures

pub returns-in-Ok-Nothing-clause-ok : goal.returns-in-Ok-Nothing-clause-ok
returns-in-Ok-Nothing-clause-ok c =
    let receives = rw c.in-Ok-Nothing.field-0-is at c.in-Ok-Nothing.ensures.ok in
    rw (sym c.self.view_is) (nothing_read _ _ _ _ _ _ receives)

pub returns-in-Ok-Push-clause-ok : goal.returns-in-Ok-Push-clause-ok
returns-in-Ok-Push-clause-ok c =
    let receives = rw c.in-Ok-Push.field-0-is at c.in-Ok-Push.ensures.ok in
    rw (sym c.self.view_is) (push_read _ _ _ _ _ _ _ c.push_fault.ensures receives)

pub returns-in-Ok-Session-clause-ok : goal.returns-in-Ok-Session-clause-ok
returns-in-Ok-Session-clause-ok c =
    let receives = rw c.in-Ok-Session.field-0-is at c.in-Ok-Session.ensures.ok in
    rw (sym c.self.view_is) (session_read _ _ _ _ _ _ _ _ c.session_fault.ensures receives)

pub returns-in-Ok-Control-clause-ok : goal.returns-in-Ok-Control-clause-ok
returns-in-Ok-Control-clause-ok c =
    let receives = rw c.in-Ok-Control.field-0-is at c.in-Ok-Control.ensures.ok in
    rw (sym c.self.view_is) (IfOk-weaker c.control_bytes.result _ _ (λ fault reads. role_read Control _ _ _ _ _ _ _ _ fault refl receives reads) c.control_bytes.ensures.ok)

pub returns-in-Ok-Control-clause-err : goal.returns-in-Ok-Control-clause-err
returns-in-Ok-Control-clause-err c =
    let receives = rw c.in-Ok-Control.field-0-is at c.in-Ok-Control.ensures.ok in
    rw (sym c.self.view_is) (IfErr-weaker c.control_bytes.result _ _ (λ left stops. role_stopped Control _ _ _ _ _ _ _ _ (left_arrivals left) refl receives stops) c.control_bytes.ensures.err)

pub returns-in-Ok-Encoder-clause-ok : goal.returns-in-Ok-Encoder-clause-ok
returns-in-Ok-Encoder-clause-ok c =
    let receives = rw c.in-Ok-Encoder.field-0-is at c.in-Ok-Encoder.ensures.ok in
    rw (sym c.self.view_is) (IfOk-weaker c.encoder_bytes.result _ _ (λ fault reads. role_read Encoder _ _ _ _ _ _ _ _ fault refl receives (λ s e. reads s e c.args.side)) c.encoder_bytes.ensures.ok)

pub returns-in-Ok-Encoder-clause-err : goal.returns-in-Ok-Encoder-clause-err
returns-in-Ok-Encoder-clause-err c =
    let receives = rw c.in-Ok-Encoder.field-0-is at c.in-Ok-Encoder.ensures.ok in
    rw (sym c.self.view_is) (IfErr-weaker c.encoder_bytes.result _ _ (λ left stops. role_stopped Encoder _ _ _ _ _ _ _ _ (left_arrivals left) refl receives (λ s e. stops s e c.args.side)) c.encoder_bytes.ensures.err)

pub returns-in-Ok-Decoder-clause-ok : goal.returns-in-Ok-Decoder-clause-ok
returns-in-Ok-Decoder-clause-ok c =
    let receives = rw c.in-Ok-Decoder.field-0-is at c.in-Ok-Decoder.ensures.ok in
    rw (sym c.self.view_is) (IfOk-weaker c.decoder_bytes.result _ _ (λ fault reads. role_read Decoder _ _ _ _ _ _ _ _ fault refl receives (λ s e. reads s e c.args.side)) c.decoder_bytes.ensures.ok)

pub returns-in-Ok-Decoder-clause-err : goal.returns-in-Ok-Decoder-clause-err
returns-in-Ok-Decoder-clause-err c =
    let receives = rw c.in-Ok-Decoder.field-0-is at c.in-Ok-Decoder.ensures.ok in
    rw (sym c.self.view_is) (IfErr-weaker c.decoder_bytes.result _ _ (λ left stops. role_stopped Decoder _ _ _ _ _ _ _ _ (left_arrivals left) refl receives (λ s e. stops s e c.args.side)) c.decoder_bytes.ensures.err)

pub returns-in-Err-clause-err : goal.returns-in-Err-clause-err
returns-in-Err-clause-err c = rw (sym c.self.view_is) (untaken _ _ _ _ _ _ _ _ c.in-Err.ensures.err.1 c.in-Err.ensures.err.0 c.of-in-Err.ensures)
