-- `emission::Piece::then` meets its contract. Assumes nothing.
use mathlib.Core.Path.{◌≡◌, refl}
use Prim.Native.Nat.{◌+◌, ◌*◌, ◌^◌, ◌%◌}
use native.Mathlib.Omega.{arith}
use lib.Bits.{bit_or}
use Rattle.emission.proofs.Joins.{bits_join, join_lt, or_join}
use Rattle.emission.proofs.Piece.then.Goals as goal

pub returns : goal.returns
returns c =
    let a = c.args.self in
    let b = c.args.next in
    let p = c.requires in
    let e : bit_or (a.word * 2 ^ b.length % 2 ^ 32) b.word ≡ a.word * 2 ^ b.length + b.word =
    or_join 32 a.length b.length a.word b.word p.0.fits p.1.fits (omega arith) in
    record {
      long = refl;
      fits = rw e (join_lt a.length b.length p.0.fits p.1.fits);
      both = rw e (bits_join a.length b.length a.word b.word p.1.fits);
    }
