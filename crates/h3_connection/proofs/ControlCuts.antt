-- However the bytes of the control stream are cut, they are read alike, also where SETTINGS has to come first and may be refused.
use Rattle.std.proofs.Common.{◌≡◌, ℕ, Bool, true, false, ◌&&◌, if◌then◌else◌, List, [], ◌++◌, append_assoc, Option, Some, None, refl, ap, sym, ◌∙◌, subst}
use Rattle.std.specs.Prelude.{is_none}
use Rattle.std.proofs.lemmas.Bool.{and_parts, and_right}
use Rattle.h3_proto.specs.declared.stream.Side.{Side}
use Rattle.h3_frames.specs.declared.frame.kinds.FrameKinds.{FrameKinds}
use Rattle.h3_frames.specs.FirstFrames.{begins_other}
use Rattle.h3_connection.specs.Codes.{missing_settings, settings_error}
use Rattle.h3_connection.specs.Control.{Found, are_refused, holding, lacks_settings, read_control, settings_alone, taken_peer, then_decoder, if_learned}
use Rattle.h3_connection.specs.DeliveryCuts.{IsSame}
use Rattle.h3_connection.specs.Endpoint.{EndpointHistory, limit_of}
use Rattle.h3_connection.specs.PeerReading.{PeerFound, read_peer, with_unread}
use Rattle.h3_connection.specs.StrictConnection.{kinds_of, is_strict, settings_refused, have_bad_value}
use Rattle.h3_connection.specs.FirstSettings.{FirstRead, Fails, HasHead, Nothing, Settings}
use Rattle.h3_connection.specs.FirstSettingsLaws.{head_stays, other_stays, what_first}
use Rattle.h3_connection.specs.PeerReadingLaws.{settings_stay}
use Rattle.h3_connection.specs.StrictConnectionLaws.{known_missed, known_refused}
use Rattle.h3_connection.proofs.PeerReadings.{then_peer}
use Rattle.h3_connection.proofs.Quiet.{quiet_taken}
use Rattle.h3_connection.proofs.ReadingCuts.{Alike, alike_same, alike_as, frames_cut, frames_fault, frames_faults, frames_on_stay, frames_quiet, left_behind, nothing_learned, read_behind, read_frames, taken_leaves}

-- what is found of further bytes, and the two tests that come before its frames
abbrev found_of : EndpointHistory → List ℕ → PeerFound
found_of g a = read_peer (kinds_of g.announced) (limit_of g) g.side (with_unread g.peer (g.peer.unread ++ a))

abbrev misses : EndpointHistory → List ℕ → Bool
misses g a = lacks_settings (holding g a)

abbrev refuses : EndpointHistory → List ℕ → Bool
refuses g a = are_refused (holding g a) g.peer.settings (found_of g a).0.settings

abbrev by_tests : EndpointHistory → List ℕ → Bool → Bool → Found
by_tests g a missing bad =
    if missing then (holding g a, Some missing_settings)
    else (if bad then (record (holding g a) { peer = settings_alone (holding g a).peer (found_of g a).0.settings }, Some settings_error) else read_frames g a)

-- where both pass, its frames are read
pub as_frames : (g : EndpointHistory) (a : List ℕ) → misses g a ≡ false → refuses g a ≡ false → read_control g a ≡ read_frames g a
as_frames g a first taken = ap (λ m. by_tests g a m (refuses g a)) first ∙ ap (by_tests g a false) taken

-- when they do
not_missed : (e : EndpointHistory) → is_strict e.announced ≡ false → lacks_settings e ≡ false
not_missed e off = ap (λ b. (b && is_none e.peer.settings) && begins_other e.peer.unread) off

not_refused : (e : EndpointHistory) (o q : Option (List (ℕ × ℕ))) → is_strict e.announced ≡ false → are_refused e o q ≡ false
not_refused e None None off = refl
not_refused e None (Some pairs) off = ap (λ b. b && have_bad_value e.side e.announced.settings pairs) off
not_refused e (Some known) q off = refl

none_refused : (e : EndpointHistory) (o q : Option (List (ℕ × ℕ))) → q ≡ None → are_refused e o q ≡ false
none_refused e None q is = ap (settings_refused e.side e.announced) is
none_refused e (Some known) q is = refl

-- it does not rest on the bytes
same_refused : (g : EndpointHistory) (a b : List ℕ) (o q : Option (List (ℕ × ℕ))) → are_refused (holding g a) o q ≡ are_refused (holding g b) o q
same_refused g a b None q = refl
same_refused g a b (Some known) q = refl

assoc_unread : (g : EndpointHistory) (a b : List ℕ) → (g.peer.unread ++ a) ++ b ≡ g.peer.unread ++ (a ++ b)
assoc_unread g a b = append_assoc g.peer.unread a b

missing_stays : (g : EndpointHistory) (a b : List ℕ) → misses g a ≡ true → misses g (a ++ b) ≡ true
missing_stays g a b is =
    let parts = and_parts (is_strict g.announced && is_none g.peer.settings) (begins_other (g.peer.unread ++ a)) is in
    ap (λ x. x && begins_other (g.peer.unread ++ (a ++ b))) parts.0 ∙ ap begins_other (sym (assoc_unread g a b)) ∙ other_stays (g.peer.unread ++ a) b parts.1

-- what more bytes make of the settings that came
kept_settings : (kinds : FrameKinds) (limit : ℕ) (side : Side) (b left : List ℕ) (x : PeerFound) (pairs : List (ℕ × ℕ)) → x.0.settings ≡ Some pairs → (then_peer kinds limit side b left x).0.settings ≡ Some pairs
kept_settings kinds limit side b left (p, Some code) pairs is = is
kept_settings kinds limit side b left (p, None) pairs is = settings_stay kinds limit side (with_unread p (p.unread ++ b)) pairs is

no_settings : (kinds : FrameKinds) (limit : ℕ) (side : Side) (b left : List ℕ) (x : PeerFound) (code : ℕ) → x.1 ≡ Some code → x.0.settings ≡ None → (then_peer kinds limit side b left x).0.settings ≡ None
no_settings kinds limit side b left (p, Some other) code is none = none
no_settings kinds limit side b left (p, None) code is none = absurd (cc)

-- What passes the first test with some bytes, and what that means with more.
data Passes (g : EndpointHistory) (a b : List ℕ) : Type 0 where
  Off : is_strict g.announced ≡ false → Passes g a b
  Known : misses g (a ++ b) ≡ false → refuses g (a ++ b) ≡ refuses g a → (pairs : List (ℕ × ℕ)) → (found_of g a).0.settings ≡ Some pairs → Passes g a b
  Failed : misses g (a ++ b) ≡ false → refuses g (a ++ b) ≡ false → refuses g a ≡ false → (code : ℕ) → (found_of g a).1 ≡ Some code → Passes g a b
  Unread : g.peer.settings ≡ None → found_of g a ≡ ((holding g a).peer, None) → Passes g a b

module _ (g : EndpointHistory) (a b : List ℕ) where
  whole_head : HasHead (g.peer.unread ++ a) → begins_other (g.peer.unread ++ a) ≡ false → misses g (a ++ b) ≡ false
  whole_head h is =
      and_right (is_strict g.announced && is_none g.peer.settings) (begins_other (g.peer.unread ++ (a ++ b)))
      (ap begins_other (sym (assoc_unread g a b)) ∙ head_stays (g.peer.unread ++ a) b h ∙ is)

  with_settings : (pairs : List (ℕ × ℕ)) → (found_of g a).0.settings ≡ Some pairs → refuses g (a ++ b) ≡ refuses g a
  with_settings pairs is =
      ap (are_refused (holding g (a ++ b)) g.peer.settings)
      (ap (λ (x : PeerFound). x.0.settings) (read_behind g a b) ∙ kept_settings (kinds_of g.announced) (limit_of g) g.side b (left_behind g a b) (found_of g a) pairs is ∙ sym is)
      ∙ same_refused g (a ++ b) a g.peer.settings (found_of g a).0.settings

  first_passes : g.peer.settings ≡ None → begins_other (g.peer.unread ++ a) ≡ false → FirstRead (kinds_of g.announced) (limit_of g) g.side (holding g a).peer → Passes g a b
  first_passes none first (Nothing is) = Unread none is
  first_passes none first (Settings h pairs came) = Known (whole_head h first) (with_settings pairs came) pairs came
  first_passes none first (Fails h code fault unknown) =
      Failed (whole_head h first)
      (none_refused (holding g (a ++ b)) g.peer.settings _
      (ap (λ (x : PeerFound). x.0.settings) (read_behind g a b) ∙ no_settings (kinds_of g.announced) (limit_of g) g.side b (left_behind g a b) (found_of g a) code fault unknown))
      (none_refused (holding g a) g.peer.settings _ unknown) code fault

  passes : misses g a ≡ false → Passes g a b
  passes first = by_choice (is_strict g.announced) refl g.peer.settings refl
    where
      by_choice : (s : Bool) → is_strict g.announced ≡ s → (o : Option (List (ℕ × ℕ))) → g.peer.settings ≡ o → Passes g a b
      by_choice false off o is = Off off
      by_choice true on (Some pairs) is =
          let came : (found_of g a).0.settings ≡ Some pairs = settings_stay (kinds_of g.announced) (limit_of g) g.side (with_unread g.peer (g.peer.unread ++ a)) pairs is in
          Known (known_missed (holding g (a ++ b)) pairs is) (with_settings pairs came) pairs came
      by_choice true on None is =
          let begins : begins_other (g.peer.unread ++ a) ≡ false =
          sym (ap (λ s. (s && is_none g.peer.settings) && begins_other (g.peer.unread ++ a)) on ∙ ap (λ o. (true && is_none o) && begins_other (g.peer.unread ++ a)) is) ∙ first in
          first_passes is begins (what_first (kinds_of g.announced) (limit_of g) g.side (holding g a).peer is begins)

  clean_by : (m r : Bool) → (by_tests g a m r).1 ≡ None → (m ≡ false) × (r ≡ false)
  clean_by true r none = absurd (cc)
  clean_by false true none = absurd (cc)
  clean_by false false none = (refl, refl)

  then_fault : (o q : Option (List (ℕ × ℕ))) (e : EndpointHistory) (code : ℕ) → (then_decoder o q e (Some code)).1 ≡ Some code
  then_fault None None e code = refl
  then_fault None (Some pairs) e code = refl
  then_fault (Some known) None e code = refl
  then_fault (Some known) (Some pairs) e code = refl

  frames_fail : (code : ℕ) → (found_of g a).1 ≡ Some code → (read_frames g a).1 ≡ Some code
  frames_fail code is =
      let x = found_of g a in
      ap (λ c. (then_decoder g.peer.settings x.0.settings (if_learned g.peer.settings x.0.settings (record g { peer = x.0 })) c).1) is
      ∙ then_fault g.peer.settings x.0.settings (if_learned g.peer.settings x.0.settings (record g { peer = x.0 })) code

  nothing_read : found_of g a ≡ ((holding g a).peer, None) → read_frames g a ≡ (holding g a, None)
  nothing_read is = ap (taken_peer g) is ∙ nothing_learned g.peer.settings (holding g a) None

  -- without a fault
  abbrev F : EndpointHistory
  F = (read_frames g a).0

  F_own : F.announced ≡ g.announced
  F_own = (quiet_taken g (found_of g a)).announced

  frames_alike : (read_frames g a).1 ≡ None → refuses g a ≡ false → Passes g a b → Alike IsSame (read_control g (a ++ b)) (read_control F b)
  frames_alike none taken (Off off) =
      let off_there : is_strict F.announced ≡ false = ap is_strict F_own ∙ off in
      alike_as IsSame _ _ _ _
      (as_frames g (a ++ b) (not_missed (holding g (a ++ b)) off) (not_refused (holding g (a ++ b)) g.peer.settings _ off))
      (as_frames F b (not_missed (holding F b) off_there) (not_refused (holding F b) F.peer.settings _ off_there))
      (frames_cut g a b none)
  frames_alike none taken (Known first same pairs came) =
      let known : F.peer.settings ≡ Some pairs = ap (λ p. p.settings) (taken_leaves g (found_of g a)) ∙ came in
      alike_as IsSame _ _ _ _ (as_frames g (a ++ b) first (same ∙ taken))
      (as_frames F b (known_missed (holding F b) pairs known) (known_refused (holding F b) F.peer.settings _ pairs known))
      (frames_cut g a b none)
  frames_alike none taken (Failed first more less code is) = let wrong : Some code ≡ None = sym (frames_fail code is) ∙ none in absurd (cc)
  frames_alike none taken (Unread unknown is) =
      alike_same _ _
      (ap (λ l. Rattle.h3_connection.specs.Control.read_held (record g { peer = with_unread g.peer l })) (sym (assoc_unread g a b))
      ∙ ap (λ x. read_control x.0 b) (sym (nothing_read is)))

pub control_cut : (g : EndpointHistory) (a b : List ℕ) → (read_control g a).1 ≡ None → Alike IsSame (read_control g (a ++ b)) (read_control (read_control g a).0 b)
control_cut g a b none =
    let clean = clean_by g a b (misses g a) (refuses g a) none in
    let here : read_control g a ≡ read_frames g a = as_frames g a clean.0 clean.1 in
    subst (λ x. Alike IsSame (read_control g (a ++ b)) (read_control x.0 b)) (sym here) (frames_alike g a b (sym (ap (λ x. x.1) here) ∙ none) clean.1 (passes g a b clean.0))

-- A fault of the first bytes is one of all: found by a test, or among the frames that are all that is read.
data Faults (g : EndpointHistory) (a b : List ℕ) (code : ℕ) : Type 0 where
  Same : (read_control g (a ++ b)).1 ≡ Some code → Faults g a b code
  Frames : (read_frames g a).1 ≡ Some code → read_control g (a ++ b) ≡ read_frames g (a ++ b) → Faults g a b code

module _ (g : EndpointHistory) (a b : List ℕ) (code : ℕ) where
  tested : (m r : Bool) → misses g (a ++ b) ≡ m → refuses g (a ++ b) ≡ r → read_control g (a ++ b) ≡ by_tests g (a ++ b) m r
  tested m r first taken = ap (λ x. by_tests g (a ++ b) x (refuses g (a ++ b))) first ∙ ap (by_tests g (a ++ b) m) taken

  differ : {A : Type 0} → true ≡ false → A
  differ wrong = absurd (cc)

  nothing_refused : g.peer.settings ≡ None → found_of g a ≡ ((holding g a).peer, None) → refuses g a ≡ false
  nothing_refused none is = none_refused (holding g a) g.peer.settings _ (ap (λ (x : PeerFound). x.0.settings) is ∙ none)

  by_refusal : (r : Bool) → refuses g a ≡ r → (by_tests g a false r).1 ≡ Some code → Passes g a b → Faults g a b code
  by_refusal true bad is (Off off) = differ (sym bad ∙ not_refused (holding g a) g.peer.settings _ off)
  by_refusal true bad is (Known first same pairs came) = Same (ap (λ x. x.1) (tested false true first (same ∙ bad)) ∙ is)
  by_refusal true bad is (Failed first more less other fails) = differ (sym bad ∙ less)
  by_refusal true bad is (Unread none nothing) = differ (sym bad ∙ nothing_refused none nothing)
  by_refusal false good is (Off off) = Frames is (tested false false (not_missed (holding g (a ++ b)) off) (not_refused (holding g (a ++ b)) g.peer.settings _ off))
  by_refusal false good is (Known first same pairs came) = Frames is (tested false false first (same ∙ good))
  by_refusal false good is (Failed first more less other fails) = Frames is (tested false false first more)
  by_refusal false good is (Unread none nothing) = let wrong : None ≡ Some code = sym (ap (λ x. x.1) (nothing_read g a b nothing)) ∙ is in absurd (cc)

  faults : (read_control g a).1 ≡ Some code → Faults g a b code
  faults = by_first (misses g a) refl
    where
      by_first : (m : Bool) → misses g a ≡ m → (by_tests g a m (refuses g a)).1 ≡ Some code → Faults g a b code
      by_first true missing is = Same (ap (λ m. (by_tests g (a ++ b) m (refuses g (a ++ b))).1) (missing_stays g a b missing) ∙ is)
      by_first false first is = by_refusal (refuses g a) refl is (passes g a b first)

pub control_fault : (g : EndpointHistory) (a b : List ℕ) (code : ℕ) → (g.peer.settings ≡ None → g.decoder_unread ≡ []) → (read_control g a).1 ≡ Some code → (read_control g (a ++ b)).1 ≡ Some code
control_fault g a b code early is = elim (faults g a b code is) [
  | Same there ↦ there
  | Frames was at ↦ ap (λ x. x.1) at ∙ frames_fault g a b code early was
]

pub control_faults : (g : EndpointHistory) (a b : List ℕ) (code : ℕ) → (read_control g a).1 ≡ Some code → (other : ℕ) × ((read_control g (a ++ b)).1 ≡ Some other)
control_faults g a b code is = elim (faults g a b code is) [
  | Same there ↦ (code, there)
  | Frames was at ↦ let found = frames_faults g a b code was in (found.0, ap (λ x. x.1) at ∙ found.1)
]

-- the stream that is read as the control stream stays
on_by : (m r : Bool) (g : EndpointHistory) (a : List ℕ) → (by_tests g a m r).0.control_on ≡ g.control_on
on_by true r g a = refl
on_by false true g a = refl
on_by false false g a = frames_on_stay g a

pub control_on_stays : (e : EndpointHistory) (bytes : List ℕ) → (read_control e bytes).0.control_on ≡ e.control_on
control_on_stays e bytes = on_by (misses e bytes) (refuses e bytes) e bytes

-- until the settings come, bytes of the control stream change nothing of the decoder stream
quiet_by : (g : EndpointHistory) (a : List ℕ) (m r : Bool) → refuses g a ≡ r → (by_tests g a m r).0.peer.settings ≡ None → (g.peer.settings ≡ None) × ((by_tests g a m r).0.decoder_unread ≡ g.decoder_unread)
quiet_by g a true r is none = (none, refl)
quiet_by g a false true is none = let wrong : true ≡ false = sym is ∙ none_refused (holding g a) g.peer.settings _ none in absurd (cc)
quiet_by g a false false is none = frames_quiet g a none

pub quiet_until : (g : EndpointHistory) (bytes : List ℕ) → (read_control g bytes).0.peer.settings ≡ None → (g.peer.settings ≡ None) × ((read_control g bytes).0.decoder_unread ≡ g.decoder_unread)
quiet_until g bytes none = quiet_by g bytes (misses g bytes) (refuses g bytes) refl none
