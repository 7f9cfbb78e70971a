-- A turn lays one block.
use Prim.Native.Nat.{◌+◌, ◌*◌}
use Rattle.std.proofs.Common.{arith}
use Rattle.msf.proofs.ContentsLaws.{block_copied, listed_within}
use Rattle.msf.proofs.container.Container.copy_blocks.Goals as goal

pub loop-j-preserved : goal.loop-j-preserved
loop-j-preserved c =
    let s = c.args.self.now.superblock in
    let file = c.args.self.now.file.now in
    let l = c.loop-j in
    let inside = listed_within file s c.args.first c.args.count l.j c.args.self.now.sound c.requires.listed (omega arith) (omega arith) in
    let p = block_copied file l.out c.args.out.now _ _ s l.j (c.args.first + c.args.count) l.at c.args.size (c.number_at.result * s.size) c.min-n.result
    (omega arith) (omega arith) (rw c.number_at.ensures) (rw c.number_at.ensures inside) c.min-n.ensures c.copy.ensures l.invariant.front l.invariant.rest in
    record { within = omega arith; front = p.0; rest = p.1 }
