-- The digits are counted before they are taken, so that they are there.
use Rattle.test_numbers.proofs.Digits.{digits_come, bytes_are_digits, number_is_read}
use Rattle.test_numbers.proofs.Reader.digits.Goals as goal

pub returns-in_err-bytes : goal.returns-in_err-bytes
returns-in_err-bytes c =
    absurd (digits_come c.args.self.now.left.now _ _ c.digit_count-n.ensures c.in_err-bytes.ensures)

pub value-requires : goal.value-requires
value-requires c =
    bytes_are_digits c.args.self.now.left.now _ _ _ c.digit_count-n.ensures c.in_ok-bytes.ensures

pub returns : goal.returns
returns c =
    number_is_read c.args.self.now.left.now _ _ _ _ c.digit_count-n.ensures c.in_ok-bytes.ensures c.value.ensures
