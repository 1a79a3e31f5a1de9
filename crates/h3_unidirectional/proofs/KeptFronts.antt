-- What is read of a control stream by its front, up to what is kept of the ids of GOAWAY frames.
use Rattle.std.proofs.Common.{◌≡◌, ℕ, ◌-◌, Bool, true, false, List, [], ◌∷◌, ◌++◌, append-nil, append_assoc, length, Option, None, refl, ap, sym, ◌∙◌, subst, arith}
use Rattle.std.specs.Prelude.{slice_get}
use Rattle.h3_proto.specs.declared.stream.Side.{Side}
use Rattle.h3_connection.specs.KeptGoaways.{alone, kept_peer, kept_found}
use Rattle.h3_connection.specs.KeptGoawayLaws.{peer_twice, reads_alike}
use Rattle.h3_connection.specs.Lasts.{last_id}
use Rattle.h3_connection.specs.PeerReading.{Peer, PeerFound, with_unread, read_peer}
use Rattle.h3_connection.specs.PeerReadingLaws.{nothing_read_on}
use Rattle.h3_unidirectional.specs.Fronts.{ReadsFront, KeepsFront, KeepsOn, IsPart, StopsReading}
use Rattle.h3_frames.specs.declared.frame.kinds.FrameKinds.{FrameKinds}

-- nothing is read
pub none_kept : (kinds : FrameKinds) (last : Bool) (limit : ℕ) (side : Side) (p : Peer) → KeepsFront kinds last limit side p p
none_kept kinds last limit side p = record { front = []; split = refl; goes_on = λ more. refl }

behind : (kinds : FrameKinds) (last : Bool) (limit : ℕ) (side : Side) (old mid next : Peer) → KeepsFront kinds last limit side old mid → ReadsFront kinds limit side mid next → KeepsFront kinds last limit side old (kept_peer last next)
behind kinds last limit side old mid next a b =
    record {
      front = a.front ++ b.front;
      split = a.split ∙ ap (λ l. a.front ++ l) b.split ∙ sym (append_assoc a.front b.front next.unread);
      goes_on = λ more. ap (λ l. kept_found last (read_peer kinds limit side (with_unread old l))) (append_assoc a.front b.front more) ∙ a.goes_on (b.front ++ more) ∙ ap (kept_found last) (b.goes_on more)
          ∙ sym (reads_alike kinds last limit side (with_unread next more));
    }

-- one front behind the other, and then what is kept
pub then_kept : (kinds : FrameKinds) (last : Bool) (limit : ℕ) (side : Side) (old mid next new : Peer) → KeepsFront kinds last limit side old mid → ReadsFront kinds limit side mid next → new ≡ kept_peer last next → KeepsFront kinds last limit side old new
then_kept kinds last limit side old mid next new a b is = subst (KeepsFront kinds last limit side old) (sym is) (behind kinds last limit side old mid next a b)

-- the whole is read as what is left
pub all_kept : (kinds : FrameKinds) (last : Bool) (limit : ℕ) (side : Side) (old mid next new : Peer) (fault : Option ℕ) → KeepsFront kinds last limit side old mid → read_peer kinds limit side mid ≡ (next, fault) → new ≡ kept_peer last next
    → kept_found last (read_peer kinds limit side old) ≡ (new, fault)
all_kept kinds last limit side old mid next new fault a read is =
    ap (λ l. kept_found last (read_peer kinds limit side (with_unread old l))) a.split ∙ a.goes_on mid.unread ∙ ap (kept_found last) read
    ∙ ap (λ (q : Peer). (let x : PeerFound = (q, fault) in x)) (sym is)

-- what is found of the front, where this is kept of the peer
front_found : (kinds : FrameKinds) (last : Bool) (limit : ℕ) (side : Side) (old next p : Peer) → old ≡ kept_peer last p → (h : KeepsFront kinds last limit side old (kept_peer last next))
    → kept_found last (read_peer kinds limit side (with_unread p h.front)) ≡ (with_unread (kept_peer last next) [], None)
front_found kinds last limit side old next p is h =
    sym (reads_alike kinds last limit side (with_unread p h.front)) ∙ ap (λ (o : Peer). kept_found last (read_peer kinds limit side (with_unread o h.front))) (sym is)
    ∙ ap (λ l. kept_found last (read_peer kinds limit side (with_unread old l))) (sym (append-nil h.front)) ∙ h.goes_on [] ∙ ap (kept_found last) (nothing_read_on kinds limit side (kept_peer last next))
    ∙ ap (λ (q : Peer). (let x : PeerFound = (with_unread q [], None) in x)) (peer_twice last next)

is_part : (kinds : FrameKinds) (last : Bool) (limit : ℕ) (side : Side) (old next p : Peer) → old ≡ kept_peer last p → KeepsFront kinds last limit side old (kept_peer last next) → IsPart kinds last limit side p (kept_peer last next)
is_part kinds last limit side old next p is h =
    let found : PeerFound = read_peer kinds limit side (with_unread p h.front) in
    let here = front_found kinds last limit side old next p is h in
    record {
      after = with_unread found.0 (found.0.unread ++ next.unread);
      part = record {
        front = h.front;
        rest = next.unread;
        cut = ap (λ (q : Peer). q.unread) (sym is) ∙ h.split;
        read = found.0;
        reads = ap (λ f. (let x : PeerFound = (found.0, f) in x)) (ap (λ (x : PeerFound). x.1) here);
        left = refl;
      };
      kept = sym (ap (λ (x : PeerFound). with_unread x.0 (x.0.unread ++ next.unread)) here);
    }

stopped : (kinds : FrameKinds) (last : Bool) (limit : ℕ) (side : Side) (old next : Peer) → KeepsFront kinds last limit side old (kept_peer last next) → StopsReading kinds last limit side old (kept_peer last next)
stopped kinds last limit side old next h =
    record {
      part = record { each = λ p is. is_part kinds last limit side old next p is h };
      resumes = λ more. sym (ap (λ l. kept_found last (read_peer kinds limit side (with_unread old (l ++ more)))) h.split
          ∙ ap (λ l. kept_found last (read_peer kinds limit side (with_unread old l))) (append_assoc h.front next.unread more) ∙ h.goes_on (next.unread ++ more));
    }

-- where memory is refused, what was read stands
pub stops_kept : (kinds : FrameKinds) (last : Bool) (limit : ℕ) (side : Side) (old mid next new : Peer) → KeepsFront kinds last limit side old mid → ReadsFront kinds limit side mid next → new ≡ kept_peer last next → StopsReading kinds last limit side old new
stops_kept kinds last limit side old mid next new a b is = subst (StopsReading kinds last limit side old) (sym is) (stopped kinds last limit side old next (behind kinds last limit side old mid next a b))

pub keeps_on : (kinds : FrameKinds) (last : Bool) (limit : ℕ) (side : Side) (old mid next new : Peer) → KeepsFront kinds last limit side old mid → ReadsFront kinds limit side mid next → new ≡ kept_peer last next → KeepsOn kinds last limit side old new
keeps_on kinds last limit side old mid next new a b is = subst (KeepsOn kinds last limit side old) (sym is) (record { front = behind kinds last limit side old mid next a b; kept = sym (peer_twice last next) })

-- what is read on from there
pub kept_behind : (kinds : FrameKinds) (last : Bool) (limit : ℕ) (side : Side) (old mid new : Peer) → KeepsFront kinds last limit side old mid → KeepsOn kinds last limit side mid new → StopsReading kinds last limit side old new
kept_behind kinds last limit side old mid new a b =
    subst (StopsReading kinds last limit side old) (sym b.kept)
    (stopped kinds last limit side old new
    (subst (KeepsFront kinds last limit side old) b.kept (record {
      front = a.front ++ b.front.front;
      split = a.split ∙ ap (λ l. a.front ++ l) b.front.split ∙ sym (append_assoc a.front b.front.front new.unread);
      goes_on = λ more. ap (λ l. kept_found last (read_peer kinds limit side (with_unread old l))) (append_assoc a.front b.front.front more) ∙ a.goes_on (b.front.front ++ more) ∙ b.front.goes_on more;
    })))

-- ids with no last one are none, and stay so
at_end : (first : ℕ) (ids : List ℕ) → slice_get (first ∷ ids) (length ids) ≡ None → first ∷ ids ≡ []
at_end first [] is = absurd (cc)
at_end first (second ∷ ids) is = absurd (let nothing = at_end second ids is in cc)

no_ids : (ids : List ℕ) → last_id ids ≡ None → ids ≡ []
no_ids [] is = refl
no_ids (first ∷ ids) is = at_end first ids (ap (slice_get (first ∷ ids)) (let place : length ids ≡ length (first ∷ ids) - 1 = omega arith in place) ∙ is)

pub none_changed : (last : Bool) (p : Peer) → last_id p.goaways ≡ None → p ≡ kept_peer last p
none_changed true p is = ap (λ ids. record p { goaways = ids }) (no_ids p.goaways is ∙ sym (ap alone is))
none_changed false p is = refl
