-- The first frame of a control stream, and what follows if the endpoint takes the settings that it brings.
use Rattle.std.proofs.Common.{◌≡◌, ℕ, Bool, true, false, if◌then◌else◌, List, [], ◌∷◌, ◌++◌, append-nil, Option, Some, None, Result, Ok, Err, refl, ap, sym, ◌∙◌}
use Rattle.std.specs.Prelude.{IfOk, OnErr, is_some}
use Rattle.h3_proto.specs.declared.stream.Side.{Side}
use Rattle.h3_frames.specs.declared.proto.frame.PayloadLen.{PayloadLen}
use Rattle.h3_frames.specs.declared.proto.frame.Frame.{Frame}
use Rattle.h3_frames.specs.declared.proto.frame.Frame.TheVariants as frame
use Rattle.h3_frames.specs.declared.frame.kinds.FrameKinds.{FrameKinds}
use Rattle.h3_connection.specs.Codes.{settings_error}
use Rattle.h3_connection.specs.Control.{settings_alone}
use Rattle.h3_connection.specs.KeptGoaways.{keeps_last, kept_peer, kept_found}
use Rattle.h3_connection.specs.PeerReading.{Peer, PeerFound, with_unread, read_frame, read_peer}
use Rattle.h3_connection.specs.PeerReadingLaws.{nothing_read_on, settings_stay}
use Rattle.h3_connection.specs.StrictConnection.{settings_refused}
use Rattle.h3_connection.specs.Updates.{Updates}
use Rattle.h3_connection.specs.declared.setup.Announced.{Announced}
use Rattle.h3_unidirectional.specs.Fronts.{KeepsFront, KeepsOn, KeepsPart, ReadsFront, StopsReading, found_first}
use Rattle.h3_unidirectional.proofs.KeptFronts.{kept_behind, none_kept, stops_kept, then_kept}

-- Of a first frame no GOAWAY, no limit on pushes and no update is taken.
none_differs : {A : Type 0} (o : Option A) (x : A) → o ≡ None → Some x ≡ o → ⊥
none_differs None x none some = cc
none_differs (Some y) x none some = cc

longer : (ids : List ℕ) (id : ℕ) → ids ≡ ids ++ id ∷ [] → ⊥
longer [] id e = cc
longer (first ∷ ids) id e = longer ids id (ap (Rattle.std.specs.Prelude.drop 1) e)

pub no_goaway_first : (side : Side) (p : Peer) (o : Option (List (ℕ × ℕ))) (f : Frame PayloadLen) (id : ℕ) → o ≡ None → read_frame side p o f ≡ (record p { goaways = p.goaways ++ id ∷ [] }, None) → ⊥
no_goaway_first side p (Some pairs) f id none is = absurd (cc)
no_goaway_first side p None (frame.Settings pairs) id none is = longer p.goaways id (ap (λ (x : PeerFound). x.0.goaways) is)
no_goaway_first side p None (frame.Data len) id none is = let wrong = ap (λ (x : PeerFound). x.1) is in absurd (cc)
no_goaway_first side p None (frame.Headers section) id none is = let wrong = ap (λ (x : PeerFound). x.1) is in absurd (cc)
no_goaway_first side p None (frame.CancelPush push) id none is = let wrong = ap (λ (x : PeerFound). x.1) is in absurd (cc)
no_goaway_first side p None (frame.PushPromise promise) id none is = let wrong = ap (λ (x : PeerFound). x.1) is in absurd (cc)
no_goaway_first side p None (frame.PriorityUpdate u) id none is = let wrong = ap (λ (x : PeerFound). x.1) is in absurd (cc)
no_goaway_first side p None (frame.Goaway last) id none is = let wrong = ap (λ (x : PeerFound). x.1) is in absurd (cc)
no_goaway_first side p None (frame.MaxPushId push) id none is = let wrong = ap (λ (x : PeerFound). x.1) is in absurd (cc)
no_goaway_first side p None (frame.WebTransportStream session) id none is = let wrong = ap (λ (x : PeerFound). x.1) is in absurd (cc)
no_goaway_first side p None (frame.Grease kind) id none is = let wrong = ap (λ (x : PeerFound). x.1) is in absurd (cc)

pub no_push_first : (side : Side) (p : Peer) (o : Option (List (ℕ × ℕ))) (f : Frame PayloadLen) (id : ℕ) → p.settings ≡ None → o ≡ None → read_frame side p o f ≡ (record p { most_pushes = Some id }, None) → ⊥
no_push_first side p (Some pairs) f id unknown none is = absurd (cc)
no_push_first side p None (frame.Settings pairs) id unknown none is = none_differs p.settings pairs unknown (ap (λ (x : PeerFound). x.0.settings) is)
no_push_first side p None (frame.Data len) id unknown none is = let wrong = ap (λ (x : PeerFound). x.1) is in absurd (cc)
no_push_first side p None (frame.Headers section) id unknown none is = let wrong = ap (λ (x : PeerFound). x.1) is in absurd (cc)
no_push_first side p None (frame.CancelPush push) id unknown none is = let wrong = ap (λ (x : PeerFound). x.1) is in absurd (cc)
no_push_first side p None (frame.PushPromise promise) id unknown none is = let wrong = ap (λ (x : PeerFound). x.1) is in absurd (cc)
no_push_first side p None (frame.PriorityUpdate u) id unknown none is = let wrong = ap (λ (x : PeerFound). x.1) is in absurd (cc)
no_push_first side p None (frame.Goaway last) id unknown none is = let wrong = ap (λ (x : PeerFound). x.1) is in absurd (cc)
no_push_first side p None (frame.MaxPushId push) id unknown none is = let wrong = ap (λ (x : PeerFound). x.1) is in absurd (cc)
no_push_first side p None (frame.WebTransportStream session) id unknown none is = let wrong = ap (λ (x : PeerFound). x.1) is in absurd (cc)
no_push_first side p None (frame.Grease kind) id unknown none is = let wrong = ap (λ (x : PeerFound). x.1) is in absurd (cc)

pub no_update_first : (side : Side) (p : Peer) (o : Option (List (ℕ × ℕ))) (f : Frame PayloadLen) (updates : Updates) → p.settings ≡ None → o ≡ None → read_frame side p o f ≡ (record p { updates = updates }, None) → ⊥
no_update_first side p (Some pairs) f updates unknown none is = absurd (cc)
no_update_first side p None (frame.Settings pairs) updates unknown none is = none_differs p.settings pairs unknown (ap (λ (x : PeerFound). x.0.settings) is)
no_update_first side p None (frame.Data len) updates unknown none is = let wrong = ap (λ (x : PeerFound). x.1) is in absurd (cc)
no_update_first side p None (frame.Headers section) updates unknown none is = let wrong = ap (λ (x : PeerFound). x.1) is in absurd (cc)
no_update_first side p None (frame.CancelPush push) updates unknown none is = let wrong = ap (λ (x : PeerFound). x.1) is in absurd (cc)
no_update_first side p None (frame.PushPromise promise) updates unknown none is = let wrong = ap (λ (x : PeerFound). x.1) is in absurd (cc)
no_update_first side p None (frame.PriorityUpdate u) updates unknown none is = let wrong = ap (λ (x : PeerFound). x.1) is in absurd (cc)
no_update_first side p None (frame.Goaway last) updates unknown none is = let wrong = ap (λ (x : PeerFound). x.1) is in absurd (cc)
no_update_first side p None (frame.MaxPushId push) updates unknown none is = let wrong = ap (λ (x : PeerFound). x.1) is in absurd (cc)
no_update_first side p None (frame.WebTransportStream session) updates unknown none is = let wrong = ap (λ (x : PeerFound). x.1) is in absurd (cc)
no_update_first side p None (frame.Grease kind) updates unknown none is = let wrong = ap (λ (x : PeerFound). x.1) is in absurd (cc)

module _ (kinds : FrameKinds) (side : Side) (own : Announced) (old : Peer) where
  abbrev last : Bool
  last = keeps_last own.choices

  abbrev limit : ℕ
  limit = own.choices.unfinished_limit

  -- what is found, by whether the settings are refused
  abbrev found_by : Bool → PeerFound → PeerFound
  found_by refused found = if refused then (settings_alone old found.0.settings, Some settings_error) else found

  none_refused : (o : Option (List (ℕ × ℕ))) → o ≡ None → settings_refused side own o ≡ false
  none_refused o none = ap (settings_refused side own) none

  -- no settings came
  pub ended : (m new : Peer) (fault : Option ℕ) → read_peer kinds limit side old ≡ (m, fault) → m.settings ≡ None → new ≡ kept_peer last m → kept_found last (found_first side own old (read_peer kinds limit side old)) ≡ (new, fault)
  ended m new fault read none kept =
      ap (λ x. kept_found last (found_first side own old x)) read ∙ ap (λ b. kept_found last (found_by b (m, fault))) (none_refused m.settings none)
      ∙ ap (λ (p : Peer). (let x : PeerFound = (p, fault) in x)) (sym kept)

  -- memory was refused before they came
  pub first_part : (m new : Peer) → ReadsFront kinds limit side old m → new ≡ kept_peer last m → KeepsPart kinds last limit side old new
  first_part m new front kept = let s : StopsReading kinds last limit side old new = stops_kept kinds last limit side old old m new (none_kept kinds last limit side old) front kept in s.part

  pub first_unknown : (m new : Peer) → old.settings ≡ None → m.settings ≡ old.settings → new ≡ kept_peer last m → settings_refused side own new.settings ≡ false
  first_unknown m new none same kept = none_refused new.settings (ap (λ (p : Peer). p.settings) kept ∙ same ∙ none)

  -- the settings of what is read on from a peer that has them
  some_pairs : (o : Option (List (ℕ × ℕ))) → is_some o ≡ true → (pairs : List (ℕ × ℕ)) × (o ≡ Some pairs)
  some_pairs None e = absurd (cc)
  some_pairs (Some pairs) e = (pairs, refl)

  on_from : (m : Peer) → ReadsFront kinds limit side old m → read_peer kinds limit side old ≡ read_peer kinds limit side m
  on_from m front = ap (λ l. read_peer kinds limit side (with_unread old l)) front.split ∙ front.goes_on m.unread

  same_settings : (m : Peer) → ReadsFront kinds limit side old m → is_some m.settings ≡ true → (read_peer kinds limit side old).0.settings ≡ m.settings
  same_settings m front some =
      let s = some_pairs m.settings some in
      ap (λ (x : PeerFound). x.0.settings) (on_from m front) ∙ settings_stay kinds limit side m s.0 s.1 ∙ sym s.1

  -- they came, and are refused
  pub refused_first : (m k new : Peer) → ReadsFront kinds limit side old m → m ≡ record old { unread = m.unread; settings = m.settings; others = m.others } → is_some m.settings ≡ true → k ≡ kept_peer last m → settings_refused side own k.settings ≡ true
      → new ≡ record k { unread = []; others = old.others } → kept_found last (found_first side own old (read_peer kinds limit side old)) ≡ (new, Some settings_error)
  refused_first m k new front earlier some kept bad is =
      let came = same_settings m front some in
      let told : settings_refused side own (read_peer kinds limit side old).0.settings ≡ true = ap (settings_refused side own) (came ∙ sym (ap (λ (p : Peer). p.settings) kept)) ∙ bad in
      ap (λ b. kept_found last (found_by b (read_peer kinds limit side old))) told
      ∙ ap (λ o. kept_found last (settings_alone old o, Some settings_error)) came
      ∙ ap (λ (p : Peer). (let x : PeerFound = (p, Some settings_error) in x))
      (sym (is ∙ ap (λ (p : Peer). record p { unread = []; others = old.others }) (kept ∙ ap (kept_peer last) earlier)))

  taken_settings : (m k : Peer) → ReadsFront kinds limit side old m → is_some m.settings ≡ true → k ≡ kept_peer last m → settings_refused side own k.settings ≡ false → settings_refused side own (read_peer kinds limit side old).0.settings ≡ false
  taken_settings m k front some kept good = ap (settings_refused side own) (same_settings m front some ∙ sym (ap (λ (p : Peer). p.settings) kept)) ∙ good

  front_kept : (m k : Peer) → ReadsFront kinds limit side old m → k ≡ kept_peer last m → KeepsFront kinds last limit side old k
  front_kept m k front kept = then_kept kinds last limit side old old m k (none_kept kinds last limit side old) front kept

  -- they came, and are taken: the rest is read
  pub read_after : (m k new : Peer) (fault : Option ℕ) → ReadsFront kinds limit side old m → is_some m.settings ≡ true → k ≡ kept_peer last m → settings_refused side own k.settings ≡ false
      → kept_found last (read_peer kinds limit side k) ≡ (new, fault) → kept_found last (found_first side own old (read_peer kinds limit side old)) ≡ (new, fault)
  read_after m k new fault front some kept good read =
      let a = front_kept m k front kept in
      ap (λ b. kept_found last (found_by b (read_peer kinds limit side old))) (taken_settings m k front some kept good)
      ∙ ap (λ l. kept_found last (read_peer kinds limit side (with_unread old l))) a.split ∙ a.goes_on k.unread ∙ read

  -- and memory is refused in that
  pub part_after : (m k new : Peer) → ReadsFront kinds limit side old m → k ≡ kept_peer last m → KeepsOn kinds last limit side k new → KeepsPart kinds last limit side old new
  part_after m k new front kept on = let s : StopsReading kinds last limit side old new = kept_behind kinds last limit side old k new (front_kept m k front kept) on in s.part

  pub taken_after : (m k new : Peer) → is_some m.settings ≡ true → k ≡ kept_peer last m → settings_refused side own k.settings ≡ false → KeepsOn kinds last limit side k new → settings_refused side own new.settings ≡ false
  taken_after m k new some kept good on =
      let s = some_pairs k.settings (ap (λ (p : Peer). is_some p.settings) kept ∙ some) in
      let front = on.front.front in
      let read : kept_found last (read_peer kinds limit side (with_unread k front)) ≡ (kept_peer last (with_unread new []), None) =
      ap (λ l. kept_found last (read_peer kinds limit side (with_unread k l))) (sym (append-nil front)) ∙ on.front.goes_on [] ∙ ap (kept_found last) (nothing_read_on kinds limit side new) in
      let same : new.settings ≡ k.settings =
      sym (ap (λ (x : PeerFound). x.0.settings) read) ∙ settings_stay kinds limit side (with_unread k front) s.0 s.1 ∙ sym s.1 in
      ap (settings_refused side own) same ∙ good

  -- the same of what the rest was answered by
  pub ok_after : {E : Type 0} (r : Result (Option ℕ) E) (m k new : Peer) → ReadsFront kinds limit side old m → is_some m.settings ≡ true → k ≡ kept_peer last m → settings_refused side own k.settings ≡ false
      → IfOk r (λ fault. kept_found last (read_peer kinds limit side k) ≡ (new, fault)) → IfOk r (λ fault. kept_found last (found_first side own old (read_peer kinds limit side old)) ≡ (new, fault))
  ok_after (Ok fault) m k new front some kept good read = read_after m k new fault front some kept good read
  ok_after (Err e) m k new front some kept good read = tt

  pub err_after : {A E : Type 0} (r : Result A E) (m k new : Peer) → ReadsFront kinds limit side old m → k ≡ kept_peer last m → OnErr r (KeepsOn kinds last limit side k new) → OnErr r (KeepsPart kinds last limit side old new)
  err_after (Ok value) m k new front kept on = tt
  err_after (Err e) m k new front kept on = part_after m k new front kept on

  pub err_taken : {A E : Type 0} (r : Result A E) (m k new : Peer) → is_some m.settings ≡ true → k ≡ kept_peer last m → settings_refused side own k.settings ≡ false → OnErr r (KeepsOn kinds last limit side k new)
      → OnErr r (settings_refused side own new.settings ≡ false)
  err_taken (Ok value) m k new some kept good on = tt
  err_taken (Err e) m k new some kept good on = taken_after m k new some kept good on
