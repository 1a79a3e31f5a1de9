-- What a poll takes of what the bytes read as.
use Rattle.std.proofs.Common.{◌≡◌, ℕ, ◌≤◌, length, length-append, false, List, ◌++◌, sym, ◌∙◌, ap, ap₂, append_assoc, Result, Ok, Err, Option, Some, None, arith}
use Rattle.h3_wire.specs.declared.quic.Poll.{Poll}
use Rattle.h3_wire.specs.declared.quic.Poll.TheVariants.{Ready, Pending}
use Rattle.h3_frames.specs.declared.proto.frame.PayloadLen.{PayloadLen}
use Rattle.h3_frames.specs.declared.proto.frame.Frame.{Frame}
use Rattle.h3_frames.specs.declared.frame.errors.FrameStreamError.{FrameStreamError}
use Rattle.h3_frames.specs.declared.frame.errors.FrameStreamError.TheVariants as stream
use Rattle.h3_wire.specs.declared.frame.payload_left.PayloadLeft.TheVariants as payload
use Rattle.h3_wire.specs.Source.{Answer}
use Rattle.h3_frames.specs.Known.{known, refusal}
use Rattle.h3_frames.specs.KnownLaws.{known-more, known_known}
use Rattle.h3_wire.specs.Streams.{Framing, left, is_open, PollsFrame, PollsData}
use Rattle.h3_wire.specs.Reads.{Framed, reads}
use Rattle.h3_wire.proofs.ReadAlike.{closed_is, reads-known, reads-whole, reads-refused, reads-bytes}
use Rattle.h3_wire.specs.ReadsOn.{reads_on, ReadsFrame, ReadsData}
use Rattle.h3_frames.specs.GivesLaws.{whole_behind, refused_behind}
use Rattle.h3_frames.specs.Frames.{plain_frames}

-- bytes with the same known part read alike, whatever follows
alike : (a b more : List ℕ) → known a ≡ known b → reads (payload.Bytes 0) (a ++ more) ≡ reads (payload.Bytes 0) (b ++ more)
alike a b more e =
    sym (reads-known (a ++ more)) ∙ ap (reads (payload.Bytes 0)) (known-more plain_frames a more ∙ ap (λ l. known (l ++ more)) e ∙ sym (known-more plain_frames b more)) ∙ reads-known (b ++ more)

same_part : {S : Type 0} (rest : S → List ℕ) (old new : Framing S) (more : List ℕ) → is_open old.payload ≡ false → known (left rest new) ≡ known (left rest old) → new.payload ≡ old.payload → reads_on rest old more ≡ reads_on rest new more
same_part rest old new more h k p =
    let zero_here = closed_is old.payload h in
    ap (λ x. reads x (left rest old ++ more)) zero_here ∙ alike (left rest old) (left rest new) more (sym k) ∙ ap (λ x. reads x (left rest new ++ more)) (sym (p ∙ zero_here))

pub polls_read : {S : Type 0} (rest : S → List ℕ) (answers : S → Answer → S → Type 0) (r : Poll (Result (Option (Frame PayloadLen)) FrameStreamError)) (old new : Framing S) → is_open old.payload ≡ false → PollsFrame rest answers r old new → (more : List ℕ) → ReadsFrame rest r old new more
polls_read rest answers (Ready (Ok (Some f))) old new h p more =
    ap (λ x. reads x (left rest old ++ more)) (closed_is old.payload h) ∙ sym (reads-known (left rest old ++ more))
    ∙ reads-whole f (known (left rest old ++ more)) (left rest new ++ more) (whole_behind plain_frames f (left rest old) (left rest new) more p.0)
    ∙ ap (λ x. Framed f (reads x (left rest new ++ more))) (sym p.1)
polls_read rest answers (Ready (Ok None)) old new h p more = same_part rest old new more h (ap known p.1 ∙ ap known (sym p.0) ∙ known_known plain_frames (left rest old)) p.3
polls_read rest answers (Ready (Err (stream.Proto e))) old new h p more =
    let r = refused_behind plain_frames (refusal e) (left rest old) (left rest new) more p.0 p.1 in
    ap (λ x. reads x (left rest old ++ more)) (closed_is old.payload h) ∙ sym (reads-known (left rest old ++ more))
    ∙ ap (reads (payload.Bytes 0)) (sym r.0) ∙ reads-refused (refusal e) (left rest new ++ more) r.1
polls_read rest answers (Ready (Err (stream.Quic e))) old new h p more = same_part rest old new more h p.0 p.2
polls_read rest answers (Ready (Err stream.UnexpectedEnd)) old new h p more = same_part rest old new more h (ap known p.0 ∙ known_known plain_frames (left rest old)) p.4
polls_read rest answers (Ready (Err stream.OutOfMemory)) old new h p more = same_part rest old new more h p.0 p.1
polls_read rest answers Pending old new h p more = same_part rest old new more h p.0 p.3

still_there : {S : Type 0} (rest : S → List ℕ) (old new : Framing S) (more : List ℕ) → left rest new ≡ left rest old → new.payload ≡ old.payload → reads_on rest old more ≡ reads_on rest new more
still_there rest old new more l p = ap₂ (λ x y. reads x (y ++ more)) (sym p) (sym l)

pub data_read : {S : Type 0} (rest : S → List ℕ) (answers : S → Answer → S → Type 0) (r : Poll (Result (Option (List ℕ)) FrameStreamError)) (old new : Framing S) → PollsData rest answers r old new → (more : List ℕ) → ReadsData rest r old new more
data_read rest answers (Ready (Ok (Some bytes))) old new p more =
    ap (λ l. reads old.payload (l ++ more)) p.1 ∙ ap (reads old.payload) (append_assoc bytes (left rest new) more) ∙ reads-bytes bytes old.payload new.payload (left rest new ++ more) p.2
data_read rest answers (Ready (Ok None)) old new p more = still_there rest old new more p.0 p.2
data_read rest answers (Ready (Err (stream.Proto e))) old new p more = absurd p
data_read rest answers (Ready (Err (stream.Quic e))) old new p more = still_there rest old new more p.0 p.2
data_read rest answers (Ready (Err stream.UnexpectedEnd)) old new p more = still_there rest old new more p.0 p.3
data_read rest answers (Ready (Err stream.OutOfMemory)) old new p more = still_there rest old new more p.0 p.1
data_read rest answers Pending old new p more = still_there rest old new more p.0 p.3

-- no byte is added
pub data_fewer : {S : Type 0} (rest : S → List ℕ) (answers : S → Answer → S → Type 0) (r : Poll (Result (Option (List ℕ)) FrameStreamError)) (old new : Framing S) → PollsData rest answers r old new → length (left rest new) ≤ length (left rest old)
data_fewer rest answers (Ready (Ok (Some bytes))) old new p = omega (arith, ap length p.1, length-append bytes (left rest new))
data_fewer rest answers (Ready (Ok None)) old new p = omega (arith, ap length p.0)
data_fewer rest answers (Ready (Err (stream.Proto e))) old new p = absurd p
data_fewer rest answers (Ready (Err (stream.Quic e))) old new p = omega (arith, ap length p.0)
data_fewer rest answers (Ready (Err stream.UnexpectedEnd)) old new p = omega (arith, ap length p.0)
data_fewer rest answers (Ready (Err stream.OutOfMemory)) old new p = omega (arith, ap length p.0)
data_fewer rest answers Pending old new p = omega (arith, ap length p.0)
