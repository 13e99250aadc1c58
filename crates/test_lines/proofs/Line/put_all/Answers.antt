-- `Line::put_all` meets its contract: each byte is put after those before it.
use Rattle.std.proofs.Common.{◌∙◌, sym}
use Rattle.test_lines.proofs.Bytes.{one_byte, all_bytes}
use Rattle.test_lines.proofs.Line.put_all.Goals as goal

pub loop-byte-preserved : goal.loop-byte-preserved
loop-byte-preserved c =
    c.loop-byte.invariant ∙ rw c.put.ensures (one_byte c.args.bytes.now _ _ c.loop-byte-test.true)

pub returns : goal.returns
returns c = sym (c.loop-byte.invariant ∙ all_bytes c.args.bytes.now _ _ c.loop-byte-test.false)
