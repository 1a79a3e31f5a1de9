-- A new endpoint that announces further settings stands for the history of one.
use Rattle.std.proofs.Common.{◌≡◌, ℕ, List, [], arith, refl, ap, sym, subst, ◌∙◌, append-nil, Result, Ok, Err}
use Rattle.h3_proto.specs.Further.{further_from}
use Rattle.h3_proto.specs.declared.frame.SettingsError.{SettingsError}
use Rattle.std.specs.Prelude.{OnOk}
use Rattle.h3_proto.specs.declared.stream.Side.{Side}
use Rattle.h3_proto.specs.declared.stream.Side.TheVariants.{Client, Server}
use Rattle.h3_connection.specs.declared.setup.Announced.{Announced}
use Rattle.h3_connection.specs.declared.setup.NewError.TheVariants as new_error
use Rattle.h3_connection.specs.Endpoint.{new_endpoint, new_endpoint_with}
use Rattle.h3_connection.specs.OwnSettings.{control_start}
use Rattle.h3_connection.specs.SendingContracts.{CreatesFurther, CreatesWith}
use Rattle.h3_connection.specs.State.{EndpointState, OwnStands, OwnState, StandsFor, TakesWhatIsThere}
use Rattle.h3_streams.specs.Placed.{StreamsState, placed}
use Rattle.h3_session.specs.Refused.{streams_of}

-- its own streams
taken_with : (side : Side) (announced : Announced) (own : OwnState) (further : List (ℕ × ℕ)) → OwnStands own (new_endpoint side announced) → TakesWhatIsThere (new_endpoint_with side announced further)
taken_with side announced own further h = record { control = omega (arith); encoder = h.taken.encoder; decoder = h.taken.decoder }

own_with : (side : Side) (announced : Announced) (own : OwnState) (further : List (ℕ × ℕ)) → OwnStands own (new_endpoint side announced)
    → OwnStands (record own { control = control_start announced.settings further }) (new_endpoint_with side announced further)
own_with Client announced own further h =
    record { control = sym (append-nil (control_start announced.settings further)); encoder = h.encoder; decoder = h.decoder; taken = taken_with Client announced own further h }
own_with Server announced own further h =
    record { control = sym (append-nil (control_start announced.settings further)); encoder = h.encoder; decoder = h.decoder; taken = taken_with Server announced own further h }

-- where they begin with what was announced, and these
begun_with : (s : EndpointState) (own : OwnState) (side : Side) (announced : Announced) (further : List (ℕ × ℕ)) → own ≡ record s.own { control = control_start s.announced.settings further } → StandsFor s (new_endpoint side announced)
    → StandsFor (record s { own = own }) (new_endpoint_with side announced further)
begun_with s own side announced further is h =
    record {
      side = h.side;
      announced = h.announced;
      closed = h.closed;
      next_id = h.next_id;
      incoming = h.incoming;
      outgoing = h.outgoing;
      unidirectional = h.unidirectional;
      distinct = h.distinct;
      control_on = h.control_on;
      encoder_on = h.encoder_on;
      decoder_on = h.decoder_on;
      peer = h.peer;
      decoding = h.decoding;
      encoder = h.encoder;
      decoder_unread = h.decoder_unread;
      own = subst (λ o. OwnStands o (new_endpoint_with side announced further)) (sym (is ∙ ap (λ (a : Announced). record s.own { control = control_start a.settings further }) h.announced)) (own_with side announced s.own further h.own);
      last_goaway = h.last_goaway;
      kept = h.kept;
      sent = h.sent;
      order = h.order;
      reached = record {
        unlearned = h.reached.unlearned;
        control = h.reached.control;
        encoder = h.reached.encoder;
        decoder = h.reached.decoder;
        told_control = h.reached.told_control;
        told_encoder = h.reached.told_encoder;
        told_decoder = h.reached.told_decoder;
        kept = h.reached.kept;
        own_updates = h.reached.own_updates;
      };
    }

-- the same of a call that may be refused
pub begins_with : {A E : Type 0} (r : Result A E) (s now : EndpointState) (x : StreamsState) (further : List (ℕ × ℕ)) → s ≡ now
    → OnOk r (x ≡ record (streams_of s) { own = record s.own { control = control_start s.announced.settings further } })
    → OnOk r ((side : Side) (announced : Announced) → StandsFor now (new_endpoint side announced) → StandsFor (placed s x) (new_endpoint_with side announced further))
begins_with (Ok value) s now x further view same = λ side announced h.
    let own : OwnState = record s.own { control = control_start s.announced.settings further } in
    let here : StandsFor (placed s (record (streams_of s) { own = own })) (new_endpoint_with side announced further)
    = begun_with s own side announced further refl (subst (λ v. StandsFor v (new_endpoint side announced)) (sym view) h) in
    subst (λ y. StandsFor (placed s y) (new_endpoint_with side announced further)) (sym same) here
begins_with (Err e) s now x further view same = tt

-- these settings are refused, or there is no memory for an endpoint, or one is made
pub further_refused : (side : Side) (a : Announced) (pairs : List (ℕ × ℕ)) (e : SettingsError) → Err e ≡ further_from a.settings [] pairs → CreatesWith side (Ok a) pairs (Err (new_error.Settings e))
further_refused side a pairs e is = subst (λ f. CreatesFurther side a f (Err (new_error.Settings e))) is refl

pub no_memory_with : (side : Side) (a : Announced) (pairs further : List (ℕ × ℕ)) → Ok further ≡ further_from a.settings [] pairs → CreatesWith side (Ok a) pairs (Err new_error.OutOfMemory)
no_memory_with side a pairs further is = subst (λ f. CreatesFurther side a f (Err new_error.OutOfMemory)) is refl

pub made_with : (side : Side) (a : Announced) (pairs further : List (ℕ × ℕ)) (s : EndpointState) → Ok further ≡ further_from a.settings [] pairs → StandsFor s (new_endpoint_with side a further) → CreatesWith side (Ok a) pairs (Ok s)
made_with side a pairs further s is h = subst (λ f. CreatesFurther side a f (Ok s)) is h
