-- What is kept at a reader that does not know the settings, where what it has of the decoder stream is held behind the control stream.
use Rattle.std.proofs.Common.{◌≡◌, ◌⊎◌, inl, inr, ℕ, ◌+◌, ◌-◌, Bool, true, false, List, [], ◌∷◌, ◌++◌, take, drop, flat_map, refl, sym, ap, ◌∙◌, subst, append-nil, if◌then◌else◌, Some, None}
use Rattle.std.specs.Prelude.{◌==◌, ◌||◌, min}
use Rattle.h3_field.specs.Instruction.{decoder_bytes}
use Rattle.h3_proto.specs.declared.stream.Side.{Side}
use Rattle.h3_proto.specs.declared.stream.Side.TheVariants.{Client, Server}
use Rattle.h3_connection.specs.declared.arrival.Arrival.{Arrival}
use Rattle.h3_connection.specs.declared.arrival.Arrival.TheVariants.{BytesCame}
use Rattle.h3_connection.specs.Endpoint.{EndpointHistory}
use Rattle.h3_connection.specs.OwnIds.{other, control_id, decoder_id}
use Rattle.h3_world.specs.Refused.{held_back}
use Rattle.h3_world.specs.Setup.{Setup}
use Rattle.h3_world.specs.Came.{settings_came}
use Rattle.h3_world.specs.World.{World, party}
use Rattle.h3_headline.specs.FlowLaws.{other-other, same_number}
use Rattle.h3_headline.specs.Standing.{StandsAt, replies_unread}
use Rattle.h3_headline.specs.WritesMoreLaws.{type_of_decoder}
use Rattle.h3_memory.specs.Kept.{Delivery, Bytes, held_bytes}
use Rattle.h3_memory.specs.Keeping.{AreKept, Held, came_of, held_of, text_of, with_count, without_held}
use Rattle.h3_memory.specs.Writing.{WritesOn}
use Rattle.h3_memory.proofs.Growing.{kept_on, may_on}
use Rattle.h3_memory.proofs.HeldBehind.{back_ahead, back_reader, back_writer, one_of, two_back}
use Rattle.h3_memory.proofs.KeptAlike.{kept_alike}
use Rattle.h3_memory.proofs.KeptLaws.{KeptLaws}
use Rattle.h3_memory.proofs.PartsLoose.{Loose}
use Rattle.h3_memory.proofs.ReadAll.{held_came, held_readable, held_same, held_there}
use Rattle.h3_memory.proofs.ReadingState.{Reading, WritesAt}
use Rattle.h3_memory.proofs.SameSent.{same_text}

-- how much came, of each stream
back_came : (w : World) (writer : Side) (i : ℕ) → came_of (held_back w writer) writer i ≡ (if i == decoder_id writer then min 1 (party w writer).own.decoder_taken else came_of w writer i)
back_came w Client i = by_tests (i == 2) refl (i == 6) refl (i == 10) refl
  where
    clash : (x y : ℕ) → (x == y) ≡ false → (i == x) ≡ true → (i == y) ≡ true → ⊥
    clash x y = Rattle.h3_memory.proofs.KeptAlike.not_both i x y

    by_tests : (a : Bool) → (i == 2) ≡ a → (b : Bool) → (i == 6) ≡ b → (c : Bool) → (i == 10) ≡ c
        → (if a || b || c then (if a then w.client.own.control_taken else (if b then w.client.own.encoder_taken else (if c then min 1 w.client.own.decoder_taken else 0))) else (Rattle.h3_world.specs.Streams.flow w Client i).delivered)
        ≡ (if c then min 1 w.client.own.decoder_taken else (if a || b || c then (if a then w.client.own.control_taken else (if b then w.client.own.encoder_taken else (if c then w.client.own.decoder_taken else 0))) else (Rattle.h3_world.specs.Streams.flow w Client i).delivered))
    by_tests true e b f true g = absurd (clash 2 10 refl e g)
    by_tests true e b f false g = refl
    by_tests false e true f true g = absurd (clash 6 10 refl f g)
    by_tests false e true f false g = refl
    by_tests false e false f true g = refl
    by_tests false e false f false g = refl
back_came w Server i = by_tests (i == 3) refl (i == 7) refl (i == 11) refl
  where
    clash : (x y : ℕ) → (x == y) ≡ false → (i == x) ≡ true → (i == y) ≡ true → ⊥
    clash x y = Rattle.h3_memory.proofs.KeptAlike.not_both i x y

    by_tests : (a : Bool) → (i == 3) ≡ a → (b : Bool) → (i == 7) ≡ b → (c : Bool) → (i == 11) ≡ c
        → (if a || b || c then (if a then w.server.own.control_taken else (if b then w.server.own.encoder_taken else (if c then min 1 w.server.own.decoder_taken else 0))) else (Rattle.h3_world.specs.Streams.flow w Server i).delivered)
        ≡ (if c then min 1 w.server.own.decoder_taken else (if a || b || c then (if a then w.server.own.control_taken else (if b then w.server.own.encoder_taken else (if c then w.server.own.decoder_taken else 0))) else (Rattle.h3_world.specs.Streams.flow w Server i).delivered))
    by_tests true e b f true g = absurd (clash 3 11 refl e g)
    by_tests true e b f false g = refl
    by_tests false e true f true g = absurd (clash 7 11 refl f g)
    by_tests false e true f false g = refl
    by_tests false e false f true g = refl
    by_tests false e false f false g = refl

-- what is held, with all of the decoder stream
abbrev pub back_held : Held → List ℕ → Held
back_held held unread = record held { decoder = unread }

back_held_is : (writer : Side) (held : Held) (unread : List ℕ) (i : ℕ) → held_of writer (back_held held unread) i ≡ (if i == decoder_id writer then unread else held_of writer held i)
back_held_is Client held unread i = Rattle.h3_memory.proofs.PartsHeld.holding_is Client held 10 unread i refl
back_held_is Server held unread i = Rattle.h3_memory.proofs.PartsHeld.holding_is Server held 11 unread i refl

apart : (writer : Side) → (control_id writer == decoder_id writer) ≡ false
apart Client = refl
apart Server = refl

apart_too : (writer : Side) → (decoder_id writer == control_id writer) ≡ false
apart_too Client = refl
apart_too Server = refl

decoder_text : (setup : Setup) (w : World) (writer : Side) → text_of setup w writer (decoder_id writer) ≡ 3 ∷ flat_map decoder_bytes (party w writer).own.replies
decoder_text setup w Client = ap (λ l. l ++ flat_map decoder_bytes w.client.own.replies) type_of_decoder
decoder_text setup w Server = ap (λ l. l ++ flat_map decoder_bytes w.server.own.replies) type_of_decoder

pub writes_back : (setup : Setup) (w : World) (side : Side) (mine : List Delivery) (count : ℕ) (ds : List Delivery) (ew g : EndpointHistory) → StandsAt setup w (other side) ew → WritesAt setup w side mine (Bytes (control_id (other side)) count ∷ ds) ew g
    → WritesAt setup (held_back w (other side)) side mine (Bytes (control_id (other side)) count ∷ held_bytes w (other side) ∷ ds) (back_writer ew) g
writes_back setup w side mine count ds ew g h t =
    let s = other side in
    let v = held_back w s in
    let on : WritesOn setup w v side = subst (WritesOn setup w v) (other-other side) (held_there setup w s) in
    record {
      held = t.held;
      incoming = t.incoming;
      arrivals = t.arrivals;
      is = t.is ∙ back_ahead setup w s ew count ds t.held t.incoming t.arrivals h;
      resumes = t.resumes;
      kept = kept_on setup w v side (held_of side t.held) mine t.arrivals on t.may t.kept;
      may = may_on setup w v side mine on t.may;
      early = t.early;
      untold = λ id e. t.untold id (sym (on.came id) ∙ e);
      distinct = t.distinct;
    }

pub control_back : (w : World) (writer : Side) → came_of (held_back w writer) writer (control_id writer) ≡ came_of w writer (control_id writer)
control_back w Client = refl
control_back w Server = refl

-- Before the settings nothing is held of the decoder stream behind the control stream.
pub none_of_decoder : (setup : Setup) (w : World) (side : Side) (mine : List Delivery) (count : ℕ) (ds : List Delivery) (f g : EndpointHistory) (id : ℕ) (more : List Arrival)
    → (r : Reading setup w side mine (Bytes (control_id (other side)) count ∷ ds) f g (BytesCame id [] ∷ more)) → r.er.peer.settings ≡ None → r.here.held.decoder ≡ []
none_of_decoder setup w side mine count ds f g id more r unknown = by_early (r.here.early unknown)
  where
    differ : true ≡ false → ⊥
    differ e = cc

    by_early : (r.here.held.decoder ≡ []) ⊎ (id ≡ decoder_id (other side)) → r.here.held.decoder ≡ []
    by_early (inl none) = none
    by_early (inr is) =
        absurd (differ (sym (ap (λ n. n == decoder_id (other side)) (sym r.here.kept.0 ∙ is) ∙ Rattle.h3_headline.specs.WaitingLaws.self (decoder_id (other side))) ∙ apart (other side)))

-- What then holds of it.
pub record BackKept (setup : Setup) (w : World) (side : Side) (mine : List Delivery) (count : ℕ) (ds : List Delivery) (g : EndpointHistory) (id : ℕ) (more : List Arrival) (er ew : EndpointHistory) (held : Held) : Type 0 where
  pub kept : AreKept (text_of setup (held_back w (other side)) (other side)) (came_of (held_back w (other side)) (other side)) (held_of (other side) (back_held held er.decoder_unread)) (Bytes (control_id (other side)) count ∷ held_bytes w (other side) ∷ ds)
      (BytesCame id [] ∷ BytesCame (decoder_id (other side)) [] ∷ more)
  pub untold : (i : ℕ) → came_of (held_back w (other side)) (other side) i ≡ 0 → held_of (other side) (back_held held er.decoder_unread) i ≡ []

pub back_kept : (setup : Setup) (w : World) (side : Side) (mine : List Delivery) (count : ℕ) (ds : List Delivery) (f g : EndpointHistory) (id : ℕ) (more : List Arrival)
    → (r : Reading setup w side mine (Bytes (control_id (other side)) count ∷ ds) f g (BytesCame id [] ∷ more)) → settings_came setup w (other side) ≡ false → ((party w (other side)).own.decoder_taken ≡ 0 → ⊥)
    → BackKept setup w side mine count ds g id more r.er r.ew r.here.held
back_kept setup w side mine count ds f g id more r unknown some =
    record {
      kept = (
        r.here.kept.0,
        first,
        (
          refl,
          second,
          kept_alike (text_of setup w s) (text_of setup v s) (with_count (came_of w s) q count) (with_count (with_count (came_of v s) q count) d (taken - 1))
              (without_held (held_of s r.here.held) q) (without_held (without_held (held_of s hold) q) d) ds more texts (λ i. held_came w s count i) holds r.here.kept.2,
        ),
      );
      untold = λ i none. held_is i ∙ by_untold i (i == d) refl none;
    }
  where
    s : Side
    s = other side

    v : World
    v = held_back w s

    q : ℕ
    q = control_id s

    d : ℕ
    d = decoder_id s

    taken : ℕ
    taken = (party w s).own.decoder_taken

    unread : List ℕ
    unread = r.er.decoder_unread

    hold : Held
    hold = back_held r.here.held unread

    texts : (i : ℕ) → text_of setup v s i ≡ text_of setup w s i
    texts i = same_text setup w v s (held_same w s) i

    held_is : (i : ℕ) → held_of s hold i ≡ (if i == d then unread else held_of s r.here.held i)
    held_is i = back_held_is s r.here.held unread i

    came_is : (i : ℕ) → came_of v s i ≡ (if i == d then min 1 taken else came_of w s i)
    came_is i = back_came w s i

    first : held_of s hold q ++ [] ≡ take count (drop (came_of v s q) (text_of setup v s q))
    first =
        ap (λ l. l ++ []) (held_is q ∙ ap (λ b. if b then unread else held_of s r.here.held q) (apart s)) ∙ r.here.kept.1
        ∙ sym (ap (λ n. take count (drop n (text_of setup v s q))) (came_is q ∙ ap (λ b. if b then min 1 taken else came_of w s q) (apart s)) ∙ ap (λ l. take count (drop (came_of w s q) l)) (texts q))

    unread_is : unread ≡ take (taken - 1) (flat_map decoder_bytes (party w s).own.replies)
    unread_is = r.two.both.here.decoder_stream.left ∙ ap (λ b. replies_unread b taken (party w s).own.replies) unknown

    second : without_held (held_of s hold) q d ++ [] ≡ take (taken - 1) (drop (with_count (came_of v s) q count d) (text_of setup v s d))
    second =
        append-nil (without_held (held_of s hold) q d) ∙ ap (λ b. if b then [] else held_of s hold d) (apart_too s) ∙ held_is d
        ∙ ap (λ b. if b then unread else held_of s r.here.held d) (Rattle.h3_headline.specs.WaitingLaws.self d) ∙ unread_is
        ∙ sym (ap (λ b. take (taken - 1) (drop (if b then came_of v s d + count else came_of v s d) (text_of setup v s d))) (apart_too s)
        ∙ ap (λ n. take (taken - 1) (drop n (text_of setup v s d))) (came_is d ∙ ap (λ b. if b then min 1 taken else came_of w s d) (Rattle.h3_headline.specs.WaitingLaws.self d) ∙ one_of taken some)
        ∙ ap (λ l. take (taken - 1) (drop 1 l)) (texts d ∙ decoder_text setup w s))

    -- nothing is held behind these
    no_decoder : held_of s r.here.held d ≡ []
    no_decoder = Rattle.h3_memory.proofs.OwnNames.decoder_held s r.here.held ∙ none_of_decoder setup w side mine count ds f g id more r (r.two.both.here.control.settings ∙ unknown_if (settings_came setup w s) unknown)
      where
        unknown_if : (b : Bool) → b ≡ false → (if b then Some (Rattle.h3_headline.specs.Standing.with_meaning (Rattle.h3_world.specs.Setup.announced_at setup s).settings) else None) ≡ None
        unknown_if true e = absurd (cc)
        unknown_if false e = refl

    holds : (i : ℕ) → without_held (without_held (held_of s hold) q) d i ≡ without_held (held_of s r.here.held) q i
    holds i = ap (λ l. if i == d then [] else (if i == q then [] else l)) (held_is i) ∙ by_id (i == d) refl (i == q)
      where
        by_id : (b : Bool) → (i == d) ≡ b → (c : Bool) → (if b then [] else (if c then [] else (if b then unread else held_of s r.here.held i))) ≡ (if c then [] else held_of s r.here.held i)
        by_id false e c = refl
        by_id true e true = refl
        by_id true e false = sym (ap (held_of s r.here.held) (same_number i d e) ∙ no_decoder)

    by_untold : (i : ℕ) (b : Bool) → (i == d) ≡ b → came_of v s i ≡ 0 → (if b then unread else held_of s r.here.held i) ≡ []
    by_untold i false e none = r.here.untold i (sym (came_is i ∙ ap (λ b. if b then min 1 taken else came_of w s i) e) ∙ none)
    by_untold i true e none = absurd (one_none (sym (came_is i ∙ ap (λ b. if b then min 1 taken else came_of w s i) e ∙ one_of taken some) ∙ none))
      where
        one_none : ◌≡◌ {A = ℕ} 1 0 → ⊥
        one_none e = cc

-- **The state, where it is held back.**
abbrev pub loose_back : (qpack : KeptLaws) (setup : Setup) (w : World) (side : Side) (mine : List Delivery) (count : ℕ) (ds : List Delivery) (f g : EndpointHistory) (id : ℕ) (more : List Arrival)
    → (r : Reading setup w side mine (Bytes (control_id (other side)) count ∷ ds) f g (BytesCame id [] ∷ more)) → settings_came setup w (other side) ≡ false → ((party w (other side)).own.decoder_taken ≡ 0 → ⊥)
    → Loose setup (held_back w (other side)) side mine (Bytes (control_id (other side)) count ∷ held_bytes w (other side) ∷ ds) g (BytesCame id [] ∷ BytesCame (decoder_id (other side)) [] ∷ more)
loose_back qpack setup w side mine count ds f g id more r unknown some =
    record {
      er = back_reader r.er;
      ew = back_writer r.ew;
      two = two_back setup w side qpack r.er r.ew r.two unknown some;
      held = back_held r.here.held r.er.decoder_unread;
      incoming = r.here.incoming;
      resumes = r.here.resumes;
      kept = (back_kept setup w side mine count ds f g id more r unknown some).kept;
      may = held_readable setup w (other side) count ds r.two.sound r.here.may;
      untold = (back_kept setup w side mine count ds f g id more r unknown some).untold;
      distinct = r.here.distinct;
      there = writes_back setup w side mine count ds r.ew g r.two.both.there r.there;
    }
