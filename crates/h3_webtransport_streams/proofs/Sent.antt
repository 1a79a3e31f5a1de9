-- What is taken and what waits are what was written.
use Rattle.std.proofs.Common.{◌≡◌, ◌∙◌, ℕ, Bool, true, false, List, [], ◌∷◌, ◌++◌, length, take, drop, refl, sym, ap, append_assoc, append-nil, if◌then◌else◌}
use Rattle.std.specs.Prelude.{min, Option, Some, None}
use Rattle.std.proofs.lemmas.List.{take-append-drop}
use Rattle.h3_connection.specs.declared.event.Refusal.{Refusal}
use Rattle.h3_connection.specs.declared.event.Refusal.TheVariants.{OutOfOrder}
use Rattle.h3_webtransport_streams.specs.Sender.{Sender, beginning, goes_on, is_end_next}
use Rattle.h3_webtransport_streams.specs.Sent.{Call, all_done, all_taken, all_written, bytes_taken, bytes_written, done}
use Rattle.h3_webtransport_streams.specs.Sent.Call.{Finishes, Sends, Takes, TakesEnd}

-- what a call answers, and the sender after it: what waits then is what waited, and what the call wrote
abbrev Keeps : Sender → List ℕ → Option Refusal × Sender → Type 0
Keeps s bytes r = r.1.waiting ≡ s.waiting ++ elim r.0 [ None ↦ bytes | Some refusal ↦ [] ]

sends_if : (b : Bool) (s : Sender) (bytes : List ℕ) → Keeps s bytes (if b then (None, record s { waiting = s.waiting ++ bytes }) else (Some OutOfOrder, s))
sends_if true s bytes = refl
sends_if false s bytes = sym (append-nil s.waiting)

finishes_if : (b : Bool) (s : Sender) → (λ (r : Option Refusal × Sender). r.1.waiting ≡ s.waiting ++ []) (if b then (None, record s { is_finished = true }) else (Some OutOfOrder, s))
finishes_if true s = sym (append-nil s.waiting)
finishes_if false s = sym (append-nil s.waiting)

ends_if : (b : Bool) (s : Sender) → (λ (r : Bool × Sender). r.1.waiting ≡ s.waiting ++ []) (if b then (true, record s { end_taken = true }) else (false, s))
ends_if true s = sym (append-nil s.waiting)
ends_if false s = sym (append-nil s.waiting)

-- one call
one : (s : Sender) (call : Call) → bytes_taken s call ++ (done s call).waiting ≡ s.waiting ++ bytes_written s call
one s (Sends bytes) = sends_if (goes_on s) s bytes
one s Finishes = finishes_if (goes_on s) s
one s (Takes count) = take-append-drop (min count (length s.waiting)) s.waiting ∙ sym (append-nil s.waiting)
one s TakesEnd = ends_if (is_end_next s) s

-- calls one after another
all : (s : Sender) (calls : List Call) → all_taken s calls ++ (all_done s calls).waiting ≡ s.waiting ++ all_written s calls
all s [] = sym (append-nil s.waiting)
all s (call ∷ calls) =
    append_assoc (bytes_taken s call) (all_taken (done s call) calls) (all_done s (call ∷ calls)).waiting
    ∙ ap (λ l. bytes_taken s call ++ l) (all (done s call) calls)
    ∙ sym (append_assoc (bytes_taken s call) (done s call).waiting (all_written (done s call) calls))
    ∙ ap (λ l. l ++ all_written (done s call) calls) (one s call)
    ∙ append_assoc s.waiting (bytes_written s call) (all_written (done s call) calls)

pub taken_was_sent : (front : List ℕ) (calls : List Call) → all_taken (beginning front) calls ++ (all_done (beginning front) calls).waiting ≡ front ++ all_written (beginning front) calls
taken_was_sent front calls = all (beginning front) calls
