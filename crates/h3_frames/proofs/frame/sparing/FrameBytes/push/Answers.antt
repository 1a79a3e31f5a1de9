use Rattle.std.proofs.Common.{◌≡◌, ◌++◌, ◌^◌, ◌<◌, List, ℕ, length, length-append, arith, ap, sym, subst}
use Rattle.std.specs.List.{concat}
use Rattle.h3_frames.specs.UnknownSize.{Sparing}
use Rattle.h3_frames.proofs.SparedPieces.{size_of_both}
use Rattle.h3_frames.proofs.frame.sparing.FrameBytes.push.Goals as goal

pub keep-requires : goal.keep-requires
keep-requires c =
    let i = c.self.inside in
    let all : length (concat (i.let_go.pieces ++ i.kept.pieces)) ≡ length (concat c.args.self.now.pieces) = ap (λ (s : Sparing). length (concat s.pieces)) c.self.view_is in
    record { fits = omega (arith, all, size_of_both i.let_go.pieces i.kept.pieces, c.requires.fits) }

pub release-requires : goal.release-requires
release-requires c =
    let i = c.self.inside in
    let new = c.keep.new.self.pieces in
    let all : length (concat (i.let_go.pieces ++ i.kept.pieces)) ≡ length (concat c.args.self.now.pieces) = ap (λ (s : Sparing). length (concat s.pieces)) c.self.view_is in
    let more : length (concat new) ≡ length (concat i.kept.pieces ++ c.args.bytes) = ap length c.in-Ok.ensures.bytes in
    record { fits = omega (arith, all, more, c.self.invariant.0.gone_is, length-append (concat i.kept.pieces) c.args.bytes, size_of_both i.let_go.pieces i.kept.pieces, c.requires.fits) }

pub invariant_of-self : goal.invariant_of-self
invariant_of-self c =
    let i = c.self.inside in
    let new = c.keep.new.self.pieces in
    let all : length (concat (i.let_go.pieces ++ i.kept.pieces)) ≡ length (concat c.args.self.now.pieces) = ap (λ (s : Sparing). length (concat s.pieces)) c.self.view_is in
    let more : length (concat new) ≡ length (concat i.kept.pieces ++ c.args.bytes) = ap length c.in-Ok.ensures.bytes in
    let fits : length (concat (i.let_go.pieces ++ new)) < 2 ^ 64 =
    omega (arith, all, more, length-append (concat i.kept.pieces) c.args.bytes, size_of_both i.let_go.pieces i.kept.pieces, size_of_both i.let_go.pieces new, c.requires.fits) in
    (c.release.ensures.front i.known_to c.self.invariant.0, subst (λ (p : List (List ℕ)). length (concat p) < 2 ^ 64) (sym c.release.ensures.pieces) fits, c.release.ensures.spared, c.release.ensures.says i.known_to i.number c.self.invariant.0 c.self.invariant.3)
