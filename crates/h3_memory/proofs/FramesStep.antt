-- A front of what is held of the control stream is read. Where the settings come with it, what the decoder wrote before is read behind them.
use Rattle.std.proofs.Common.{◌≡◌, ℕ, Bool, true, false, List, [], ◌∷◌, ◌++◌, length, refl, sym, ap, ◌∙◌, subst, append-nil, if◌then◌else◌, Option, Some, None}
use Rattle.std.specs.Prelude.{◌&&◌, ◌==◌, is_none, unwrap_or}
use Rattle.h3_proto.specs.Settings.{value_of}
use Rattle.h3_proto.specs.declared.stream.Side.{Side}
use Rattle.h3_frames.specs.Fronts.{IsUnfinishedFront}
use Rattle.h3_connection.specs.declared.arrival.Arrival.{Arrival}
use Rattle.h3_connection.specs.declared.arrival.Arrival.TheVariants.{BytesCame}
use Rattle.h3_frames.specs.FirstFrames.{begins_other}
use Rattle.h3_connection.specs.Control.{Found, are_refused, holding, if_learned, is_table_usable, lacks_settings, learned, taken_peer, then_decoder, with_table}
use Rattle.h3_connection.specs.Endpoint.{EndpointHistory, limit_of}
use Rattle.h3_connection.specs.Keeping.{read_arrival}
use Rattle.h3_connection.specs.OwnIds.{other, control_id, decoder_id}
use Rattle.h3_connection.specs.PartReading.{MayRead, PeerReadsPart, after_frames, early, early_if, early_arrival}
use Rattle.h3_connection.specs.PeerReading.{Peer, PeerFound, read_peer, read_within, with_unread}
use Rattle.h3_connection.specs.StreamSets.{stream_at}
use Rattle.h3_connection.specs.StrictConnection.{is_strict, kinds_of}
use Rattle.h3_connection.specs.StrictConnectionLaws.{front_missed, held_taken, refused_alike}
use Rattle.h3_connection.specs.declared.setup.Announced.{Announced}
use Rattle.h3_connection.specs.Unidirectional.Role.{Control}
use Rattle.h3_world.specs.Refused.{held_back}
use Rattle.h3_world.specs.Came.{settings_came}
use Rattle.h3_world.specs.Setup.{IsMadeSetup, Setup, TakesAnyLength}
use Rattle.h3_world.specs.World.{World, party}
use Rattle.h3_headline.specs.AnnouncedLaws.{announces_at}
use Rattle.h3_headline.specs.Cited.{Laws}
use Rattle.h3_headline.specs.ControlStreamLaws.{waits, without_limit}
use Rattle.h3_headline.specs.PeerStreams.{no_limit}
use Rattle.h3_headline.specs.Standing.{StandsAt, are_settings_there, came_on, replies_unread}
use Rattle.h3_memory.specs.Kept.{Delivery, Bytes, End, Reset, held_bytes, HoldsBack}
use Rattle.h3_memory.specs.Keeping.{Held, ahead, came_of, held_of}
use Rattle.h3_memory.proofs.AheadReading.{learned_ahead}
use Rattle.h3_memory.proofs.BehindOwn.{found_as}
use Rattle.h3_memory.proofs.HeardSteps.{of_own}
use Rattle.h3_memory.proofs.HeldBehind.{back_reader}
use Rattle.h3_memory.proofs.HoldsStep.{no_replies_left}
use Rattle.h3_memory.proofs.KeptLaws.{KeptLaws}
use Rattle.h3_memory.proofs.LooseBack.{back_held, loose_back}
use Rattle.h3_memory.proofs.OwnAhead.{own_kind}
use Rattle.h3_memory.proofs.OwnNames.{control_came, control_held, control_holding, control_own}
use Rattle.h3_memory.proofs.PartRuns.{ReadsFramesOn}
use Rattle.h3_memory.proofs.PartSteps.{PartStep, own_part, stays}
use Rattle.h3_memory.proofs.PartsLoose.{Loose, loose_part}
use Rattle.h3_memory.proofs.PartsRead.{Splits, Beyond, Within, splits}
use Rattle.h3_memory.proofs.ReadingState.{Reading}
use Rattle.h3_memory.proofs.TellsRole.{IsReadAs, came_on_is, control_reads, no_bytes_listened, told_stream}
use Rattle.h3_memory.proofs.Unfinished.{control_unfinished}
use Rattle.h3_frames.specs.declared.frame.kinds.FrameKinds.{FrameKinds}

abbrev no_code : Peer → PeerFound
no_code p = (p, None)

within_all : (kinds : FrameKinds) (side : Side) (p : Peer) (bytes : List ℕ) → read_peer kinds no_limit side (with_unread p bytes) ≡ read_within kinds (length bytes) no_limit side (with_unread p bytes)
unfolding read_peer
within_all kinds side p bytes = refl

-- where the same settings are known
learned_same : (o : Option (List (ℕ × ℕ))) (e : EndpointHistory) → if_learned o o e ≡ e
learned_same None e = refl
learned_same (Some pairs) e = refl

early_same : (o : Option (List (ℕ × ℕ))) (on : Option ℕ) → early_if o o on ≡ []
early_same None on = refl
early_same (Some pairs) on = refl

-- what is learned leaves the decoder stream and the settings alone
learned_unread : (e : EndpointHistory) (pairs : List (ℕ × ℕ)) → (learned e pairs).decoder_unread ≡ e.decoder_unread
learned_unread e pairs = by_test (is_table_usable e.encoder.most_capacity (unwrap_or (value_of 1 pairs) 0) (unwrap_or (value_of 7 pairs) 0))
  where
    by_test : (b : Bool) → (if b then with_table e (unwrap_or (value_of 1 pairs) 0) (unwrap_or (value_of 7 pairs) 0) else e).decoder_unread ≡ e.decoder_unread
    by_test true = refl
    by_test false = refl

learned_peer : (e : EndpointHistory) (pairs : List (ℕ × ℕ)) → (learned e pairs).peer ≡ e.peer
learned_peer e pairs = by_test (is_table_usable e.encoder.most_capacity (unwrap_or (value_of 1 pairs) 0) (unwrap_or (value_of 7 pairs) 0))
  where
    by_test : (b : Bool) → (if b then with_table e (unwrap_or (value_of 1 pairs) 0) (unwrap_or (value_of 7 pairs) 0) else e).peer ≡ e.peer
    by_test true = refl
    by_test false = refl

-- nothing was learned, or the settings were
data Learns (before after : Option (List (ℕ × ℕ))) : Type 0 where
  Same : ((e : EndpointHistory) → if_learned before after e ≡ e) → ((e : EndpointHistory) → then_decoder before after e None ≡ found_as e) → ((on : Option ℕ) → early_if before after on ≡ []) → Learns before after
  New : (pairs : List (ℕ × ℕ)) → before ≡ None → after ≡ Some pairs → Learns before after

learns : (before after : Option (List (ℕ × ℕ))) → Learns before after
learns None None = Same (λ e. refl) (λ e. refl) (λ on. refl)
learns None (Some pairs) = New pairs refl refl
learns (Some old) None = Same (λ e. refl) (λ e. refl) (λ on. refl)
learns (Some old) (Some new) = Same (λ e. refl) (λ e. refl) (λ on. refl)

not_known : (b : Bool) (x : List (ℕ × ℕ)) → (if b then Some x else None) ≡ None → b ≡ false
not_known true x e = absurd (cc)
not_known false x e = refl

none_came : (came x : ℕ) → came_on came x ≡ None → came ≡ 0
none_came came x e = by_test (came == 0) refl e
  where
    by_test : (b : Bool) → (came == 0) ≡ b → (if b then None else Some x) ≡ None → came ≡ 0
    by_test true t e = Rattle.h3_headline.specs.FlowLaws.same_number came 0 t
    by_test false t e = absurd (cc)

module _ (qpack : KeptLaws) (laws : Laws) (setup : Setup) (made : IsMadeSetup setup) (w : World) (side : Side) (mine : List Delivery) (f g : EndpointHistory) where
  abbrev s : Side
  s = other side

  abbrev q : ℕ
  q = control_id s

  -- the result, by what the control stream said
  abbrev Goes : ℕ → List Delivery → ℕ → List Arrival → Peer → Type 0
  Goes count ds id more p = PartStep setup w side mine (Bytes q count ∷ ds) (after_frames f p) g (BytesCame id [] ∷ early f p ++ more)

  module _ (count : ℕ) (ds : List Delivery) (id : ℕ) (more : List Arrival) (z : Reading setup w side mine (Bytes q count ∷ ds) f g (BytesCame id [] ∷ more)) (on : f.control_on ≡ Some id) where
    e : StandsAt setup w side z.er
    e = z.two.both.here

    abbrev F : EndpointHistory
    F = ahead z.er mine z.here.held z.here.incoming []

    told : ((party w s).own.control_taken ≡ 0 → ⊥) × (id ≡ q)
    told = came_on_is (party w s).own.control_taken q id (sym e.control.is_on ∙ sym (ap (λ (x : EndpointHistory). x.control_on) z.here.is) ∙ on)

    some_came : came_of w s q ≡ 0 → ⊥
    some_came none = told.0 (sym (control_came w s) ∙ none)

    read_as : IsReadAs z.er q Control z.er.control_on
    read_as = record {
      kind = own_kind setup w side z.er q e (control_own s);
      stream = told_stream (party w s).own.control_taken Control (stream_at z.er.unidirectional q) told.0 e.control.stream_is;
      on_it = ap (λ (x : EndpointHistory). x.control_on) (sym z.here.is) ∙ on ∙ ap Some told.1;
    }

    -- **Nothing of a frame that is not whole is read.**
    nothing_read : (p : Peer) → p ≡ f.peer → Goes count ds id more p
    nothing_read p is =
        subst (Goes count ds id more) (sym is)
        (subst (λ x. PartStep setup w side mine (Bytes q count ∷ ds) x g (BytesCame id [] ∷ early f f.peer ++ more)) (sym (learned_same f.peer.settings f))
        (subst (λ l. PartStep setup w side mine (Bytes q count ∷ ds) f g (BytesCame id [] ∷ l ++ more)) (sym (early_same f.peer.settings f.decoder_on)) (stays setup w side mine (Bytes q count ∷ ds) f g (BytesCame id [] ∷ more) z)))

    module _ (read rest : List ℕ) (P : Peer) (is_held : z.here.held.control ≡ read ++ rest) (reads : read_peer (kinds_of z.er.announced) (limit_of z.er) z.er.side (with_unread z.er.peer (z.er.peer.unread ++ read)) ≡ no_code P)
        (first : lacks_settings (holding z.er read) ≡ false) (taken : are_refused z.er z.er.peer.settings P.settings ≡ false) where
      abbrev p : Peer
      p = with_unread P (P.unread ++ rest)

      held_is : held_of s z.here.held q ≡ read ++ rest
      held_is = control_held s z.here.held ∙ is_held

      settings_is : f.peer.settings ≡ z.er.peer.settings
      settings_is = ap (λ (x : EndpointHistory). x.peer.settings) z.here.is

      decoder_is : f.decoder_on ≡ z.er.decoder_on
      decoder_is = ap (λ (x : EndpointHistory). x.decoder_on) z.here.is

      behind_reads_so : read_arrival z.er (BytesCame q read) ≡ taken_peer z.er (no_code P)
      behind_reads_so =
          control_reads z.er q read read_as
          ∙ held_taken (holding z.er read) first
          (ap (λ (x : PeerFound). are_refused (holding z.er read) z.er.peer.settings x.0.settings) reads ∙ refused_alike (holding z.er read) z.er z.er.peer.settings P.settings refl refl ∙ taken)
          ∙ ap (taken_peer z.er) reads

      abbrev left_held : Held
      left_held = record z.here.held { control = rest }

      -- **No settings came.**
      same_settings : ((x : EndpointHistory) → if_learned z.er.peer.settings P.settings x ≡ x) → ((x : EndpointHistory) → then_decoder z.er.peer.settings P.settings x None ≡ found_as x)
          → ((o : Option ℕ) → early_if z.er.peer.settings P.settings o ≡ []) → Goes count ds id more p
      same_settings learned_none then_none early_none =
          subst (λ l. PartStep setup w side mine (Bytes q count ∷ ds) (after_frames f p) g (BytesCame id [] ∷ l ++ more)) (sym (ap (λ o. early_if o P.settings f.decoder_on) settings_is ∙ early_none f.decoder_on))
          (own_part qpack laws setup w side mine f g made (after_frames f p) q count ds id read rest more (control_own s) some_came z held_is
          (ap (λ o. if_learned o P.settings (record f { peer = p })) settings_is ∙ learned_none (record f { peer = p }) ∙ ap (λ (x : EndpointHistory). record x { peer = p }) z.here.is
          ∙ ap (λ (x : Found). ahead x.0 mine left_held z.here.incoming []) (sym behind_is)
          ∙ ap (λ h. ahead (read_arrival z.er (BytesCame q read)).0 mine h z.here.incoming []) (sym (control_holding s z.here.held rest))))
        where
          behind_is : read_arrival z.er (BytesCame q read) ≡ found_as (record z.er { peer = P })
          behind_is = behind_reads_so ∙ ap (λ x. then_decoder z.er.peer.settings P.settings x None) (learned_none (record z.er { peer = P })) ∙ then_none (record z.er { peer = P })

      module _ (pairs : List (ℕ × ℕ)) (unknown : z.er.peer.settings ≡ None) (known : P.settings ≡ Some pairs) where
        abbrev L : EndpointHistory → EndpointHistory
        L x = learned (record x { peer = P }) pairs

        after_is : after_frames f p ≡ learned (record f { peer = p }) pairs
        after_is = ap (λ o. if_learned o P.settings (record f { peer = p })) (settings_is ∙ unknown) ∙ ap (λ o. if_learned None o (record f { peer = p })) known

        -- what one that has nothing of the decoder stream reads
        reads_settings : (x : EndpointHistory) → x.peer ≡ z.er.peer → x.announced ≡ z.er.announced → x.side ≡ z.er.side → limit_of x ≡ limit_of z.er → x.decoder_unread ≡ [] → IsReadAs x q Control x.control_on
            → read_arrival x (BytesCame q read) ≡ found_as (L x)
        reads_settings x peer own side_is limit_is nothing role =
            control_reads x q read role
            ∙ held_taken (holding x read) first_too taken_too
            ∙ ap (taken_peer x) found_too
            ∙ ap (λ o. then_decoder o P.settings (if_learned o P.settings (record x { peer = P })) None) (ap (λ (y : Peer). y.settings) peer ∙ unknown)
            ∙ ap (λ o. then_decoder None o (if_learned None o (record x { peer = P })) None) known
            ∙ no_bytes_listened (L x) (learned_unread (record x { peer = P }) pairs ∙ nothing)
          where
            found_too : read_peer (kinds_of x.announced) (limit_of x) x.side (with_unread x.peer (x.peer.unread ++ read)) ≡ no_code P
            found_too =
                ap (λ (a : Announced). read_peer (kinds_of a) (limit_of x) x.side (with_unread x.peer (x.peer.unread ++ read))) own
                ∙ ap (λ n. read_peer (kinds_of z.er.announced) n x.side (with_unread x.peer (x.peer.unread ++ read))) limit_is
                ∙ ap (λ t. read_peer (kinds_of z.er.announced) (limit_of z.er) t (with_unread x.peer (x.peer.unread ++ read))) side_is
                ∙ ap (λ y. read_peer (kinds_of z.er.announced) (limit_of z.er) z.er.side (with_unread y (y.unread ++ read))) peer
                ∙ reads

            first_too : lacks_settings (holding x read) ≡ false
            first_too =
                ap (λ (a : Announced). (is_strict a && is_none x.peer.settings) && begins_other (x.peer.unread ++ read)) own
                ∙ ap (λ (y : Peer). (is_strict z.er.announced && is_none y.settings) && begins_other (y.unread ++ read)) peer ∙ first

            taken_too : are_refused (holding x read) x.peer.settings (read_peer (kinds_of x.announced) (limit_of x) x.side (with_unread x.peer (x.peer.unread ++ read))).0.settings ≡ false
            taken_too =
                ap (λ (y : PeerFound). are_refused (holding x read) x.peer.settings y.0.settings) found_too
                ∙ ap (λ (y : Peer). are_refused (holding x read) y.settings P.settings) peer
                ∙ refused_alike (holding x read) z.er z.er.peer.settings P.settings side_is own ∙ taken

        -- **Nothing came of the decoder stream.**
        without_decoder : z.er.decoder_on ≡ None → Goes count ds id more p
        without_decoder none =
            subst (λ l. PartStep setup w side mine (Bytes q count ∷ ds) (after_frames f p) g (BytesCame id [] ∷ l ++ more))
            (sym (ap (λ o. early_if o P.settings f.decoder_on) (settings_is ∙ unknown) ∙ ap (λ o. early_if None o f.decoder_on) known ∙ ap early_arrival (decoder_is ∙ none)))
            (own_part qpack laws setup w side mine f g made (after_frames f p) q count ds id read rest more (control_own s) some_came z held_is
            (after_is ∙ ap (λ (x : EndpointHistory). learned (record x { peer = p }) pairs) z.here.is ∙ learned_ahead mine z.here.incoming [] left_held (record z.er { peer = P }) pairs
            ∙ ap (λ (x : Found). ahead x.0 mine left_held z.here.incoming []) (sym (reads_settings z.er refl refl refl refl nothing read_as))
            ∙ ap (λ h. ahead (read_arrival z.er (BytesCame q read)).0 mine h z.here.incoming []) (sym (control_holding s z.here.held rest))))
          where
            nothing : z.er.decoder_unread ≡ []
            nothing =
                e.decoder_stream.left
                ∙ ap (λ n. replies_unread (are_settings_there setup s (party w s).own.control_taken) n (party w s).own.replies) (none_came (party w s).own.decoder_taken (decoder_id s) (sym e.decoder_stream.is_on ∙ none))
                ∙ no_replies_left (are_settings_there setup s (party w s).own.control_taken) (party w s).own.replies

        -- **Some did: it is held behind the settings.**
        with_decoder : (d : ℕ) → z.er.decoder_on ≡ Some d → Goes count ds id more p
        with_decoder d some =
            subst (λ l. PartStep setup w side mine (Bytes q count ∷ ds) (after_frames f p) g (BytesCame id [] ∷ l ++ more))
            (sym (ap (λ o. early_if o P.settings f.decoder_on) (settings_is ∙ unknown) ∙ ap (λ o. early_if None o f.decoder_on) known ∙ ap early_arrival (decoder_is ∙ some) ∙ ap (λ n. BytesCame n [] ∷ []) decoder_told.1))
            (record { world = part.world; left = part.left; goes = λ v l go. HoldsBack count not_there (part.goes v l go); reading = part.reading })
          where
            decoder_told : ((party w s).own.decoder_taken ≡ 0 → ⊥) × (d ≡ decoder_id s)
            decoder_told = came_on_is (party w s).own.decoder_taken (decoder_id s) d (sym e.decoder_stream.is_on ∙ some)

            not_there : settings_came setup w s ≡ false
            not_there = not_known (settings_came setup w s) _ (sym e.control.settings ∙ unknown)

            v : World
            v = held_back w s

            b : Loose setup v side mine (Bytes q count ∷ held_bytes w s ∷ ds) g (BytesCame id [] ∷ BytesCame (decoder_id s) [] ∷ more)
            b = loose_back qpack setup w side mine count ds f g id more z not_there decoder_told.0

            x : EndpointHistory
            x = back_reader z.er

            held_so : Held
            held_so = back_held z.here.held z.er.decoder_unread

            role : IsReadAs (back_reader z.er) q Control z.er.control_on
            role = record { kind = read_as.kind; stream = read_as.stream; on_it = read_as.on_it }

            no_decoder_held : z.here.held.decoder ≡ []
            no_decoder_held = Rattle.h3_memory.proofs.LooseBack.none_of_decoder setup w side mine count ds f g id more z unknown

            real_is : record f { peer = p } ≡ ahead (record (back_reader z.er) { peer = P }) mine (record (back_held z.here.held z.er.decoder_unread) { control = rest }) z.here.incoming []
            real_is =
                ap (λ (y : EndpointHistory). record y { peer = p }) z.here.is
                ∙ ap (λ l. record F { peer = p; decoder_unread = l }) (ap (λ l. z.er.decoder_unread ++ l) no_decoder_held ∙ append-nil z.er.decoder_unread)

            part : PartStep setup v side mine (Bytes q count ∷ held_bytes w s ∷ ds) (after_frames f p) g (BytesCame id [] ∷ BytesCame (decoder_id s) [] ∷ more)
            part =
                loose_part qpack laws setup v side mine g made (after_frames f p) q count (held_bytes w s ∷ ds) id read rest (BytesCame (decoder_id s) [] ∷ more) (control_own s) still_came (loose_back qpack setup w side mine count ds f g id more z not_there decoder_told.0)
                (control_held s (back_held z.here.held z.er.decoder_unread) ∙ is_held)
                (after_is ∙ ap (λ y. learned y pairs) real_is
                ∙ learned_ahead mine z.here.incoming [] (record (back_held z.here.held z.er.decoder_unread) { control = rest }) (record (back_reader z.er) { peer = P }) pairs
                ∙ ap (λ (y : Found). ahead y.0 mine (record (back_held z.here.held z.er.decoder_unread) { control = rest }) z.here.incoming []) (sym (reads_settings (back_reader z.er) refl refl refl refl refl role))
                ∙ ap (λ h. ahead (read_arrival (back_reader z.er) (BytesCame q read)).0 mine h z.here.incoming []) (sym (control_holding s (back_held z.here.held z.er.decoder_unread) rest)))
                (λ none. absurd (known_now (sym (ap (λ (y : Found). y.0.peer.settings) (reads_settings (back_reader z.er) refl refl refl refl refl role) ∙ ap (λ (y : Peer). y.settings) (learned_peer (record (back_reader z.er) { peer = P }) pairs) ∙ known) ∙ none)))
              where
                known_now : Some pairs ≡ None → ⊥
                known_now e = cc

                still_came : came_of v s q ≡ 0 → ⊥
                still_came none = some_came (sym (Rattle.h3_memory.proofs.LooseBack.control_back w s) ∙ none)

        new_settings : (o : Option ℕ) → z.er.decoder_on ≡ o → Goes count ds id more p
        new_settings None none = without_decoder none
        new_settings (Some d) some = with_decoder d some

      settled : Learns z.er.peer.settings P.settings → Goes count ds id more p
      settled (Same learned_none then_none early_none) = same_settings learned_none then_none early_none
      settled (New pairs unknown known) = new_settings pairs unknown known z.er.decoder_on refl

    at : (p : Peer) → MayRead f p → PeerReadsPart (kinds_of f.announced) (limit_of f) f.side f.peer p → Goes count ds id more p
    at p may h = by_split (splits z.er.peer.unread z.here.held.control h.front h.rest (sym (ap (λ (x : EndpointHistory). x.peer.unread) z.here.is) ∙ h.cut))
      where
        reads_behind : read_peer (kinds_of z.er.announced) (limit_of z.er) z.er.side (with_unread z.er.peer h.front) ≡ no_code h.read
        reads_behind = sym (ap (λ (x : EndpointHistory). read_peer (kinds_of x.announced) (limit_of x) x.side (with_unread x.peer h.front)) z.here.is) ∙ h.reads

        first_behind : ((is_strict z.er.announced && is_none z.er.peer.settings) && begins_other h.front) ≡ false
        first_behind =
            sym (ap (λ (x : EndpointHistory). (is_strict x.announced && is_none x.peer.settings) && begins_other h.front) z.here.is) ∙ front_missed f h.front h.rest h.cut may.first

        taken_behind : are_refused z.er z.er.peer.settings h.read.settings ≡ false
        taken_behind =
            refused_alike z.er F z.er.peer.settings h.read.settings refl refl
            ∙ sym (ap (λ (x : EndpointHistory). are_refused x x.peer.settings h.read.settings) z.here.is)
            ∙ sym (ap (λ (x : Peer). are_refused f f.peer.settings x.settings) h.left) ∙ may.taken

        by_split : Splits z.er.peer.unread z.here.held.control h.front h.rest → Goes count ds id more p
        by_split (Beyond read is more_is) =
            subst (Goes count ds id more) (sym h.left)
            (settled read h.rest h.read more_is (ap (λ l. read_peer (kinds_of z.er.announced) (limit_of z.er) z.er.side (with_unread z.er.peer l)) (sym is) ∙ reads_behind)
            (sym (ap (λ l. (is_strict z.er.announced && is_none z.er.peer.settings) && begins_other l) is) ∙ first_behind) taken_behind (learns z.er.peer.settings h.read.settings))
        by_split (Within left is more_is) =
            let unfinished : IsUnfinishedFront (kinds_of z.er.announced) h.front = control_unfinished (kinds_of z.er.announced) setup s (party w s).own.control_taken (party w s).own.goaways h.front left (announces_at setup s made) z.two.both.writes_there.goaways (sym e.control.unread ∙ is) in
            let nothing : no_code h.read ≡ no_code (with_unread z.er.peer h.front) =
            sym reads_behind ∙ without_limit (kinds_of z.er.announced) (limit_of z.er) z.er.side (with_unread z.er.peer h.front) (subst TakesAnyLength (sym e.announced) e.any) ∙ within_all (kinds_of z.er.announced) z.er.side z.er.peer h.front ∙ waits (kinds_of z.er.announced) (length h.front) z.er.side z.er.peer h.front unfinished in
            nothing_read p
            (h.left ∙ ap (λ (x : PeerFound). with_unread x.0 (x.0.unread ++ h.rest)) nothing ∙ sym (ap (λ (x : EndpointHistory). with_unread x.peer (h.front ++ h.rest)) z.here.is) ∙ ap (λ l. with_unread f.peer l) (sym h.cut))

-- **A part of the control stream.**
pub frames_step : (qpack : KeptLaws) (laws : Laws) (setup : Setup) → IsMadeSetup setup → ReadsFramesOn setup
frames_step qpack laws setup made w side mine [] f g id p more r on may h = absurd r.here.kept
frames_step qpack laws setup made w side mine (End k ∷ ds) f g id p more r on may h = absurd r.here.kept
frames_step qpack laws setup made w side mine (Reset k ∷ ds) f g id p more r on may h = absurd r.here.kept
frames_step qpack laws setup made w side mine (Bytes k count ∷ ds) f g id p more r on may h =
    of_own setup w side mine f g ds k count id (control_id (other side)) [] more (λ n. PartStep setup w side mine (Bytes n count ∷ ds) (after_frames f p) g (BytesCame id [] ∷ early f p ++ more)) r.here.kept.0 first.1
    (λ z. at qpack laws setup made w side mine f g count ds id more z on p may h) r
  where
    first : ((party w (other side)).own.control_taken ≡ 0 → ⊥) × (id ≡ control_id (other side))
    first = came_on_is (party w (other side)).own.control_taken (control_id (other side)) id (sym r.two.both.here.control.is_on ∙ sym (ap (λ (x : EndpointHistory). x.control_on) r.here.is) ∙ on)
