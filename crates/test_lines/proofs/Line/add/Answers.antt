-- `Line::add` meets its contract: each number's text and a space are put after those before it.
use Rattle.std.proofs.Common.{rules, ◌≡◌, ◌∙◌, sym}
use Rattle.test_lines.proofs.Bytes.{one_number, all_numbers}
use Rattle.test_lines.proofs.Line.add.Goals as goal

pub loop-number-preserved : goal.loop-number-preserved
loop-number-preserved g c =
    let text : c.as_bytes.result.now ≡ g.T.Integer.text c.number-item.result = search rules in
    c.loop-number.invariant
    ∙ rw (c.put.ensures, c.put_all.ensures, text)
    (one_number g.T.Integer.text c.args.numbers.now _ c.number-item.result _ c.loop-number-test.true c.number-item.is)

pub returns : goal.returns
returns g c =
    sym (c.loop-number.invariant ∙ all_numbers g.T.Integer.text c.args.numbers.now _ _ c.loop-number-test.false)
