use Rattle.std.proofs.Common.{arith}
use Rattle.h3_header.proofs.CountLemmas.{byte_of, length-pseudo}
use Rattle.h3_header.proofs.headers.pseudo.Pseudo.len.Goals as goal

pub returns : goal.returns
returns c =
    let q = c.args.self.now in
    let m = byte_of _ q.method c.is_some.ensures in
    let s = byte_of _ q.scheme c.is_some-2.ensures in
    let a = byte_of _ q.authority c.is_some-3.ensures in
    let p = byte_of _ q.path c.is_some-4.ensures in
    let n = byte_of _ q.status c.is_some-5.ensures in
    let t = byte_of _ q.protocol c.is_some-6.ensures in
    let sum = length-pseudo q in
    omega arith
