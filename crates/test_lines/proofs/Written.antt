-- No byte of a line is lost, and none is written twice.
use Rattle.std.proofs.Common.{◌≡◌, ◌∙◌, ap, ℕ, Bool, true, false, cond, eqb, List, [], ◌∷◌, ◌++◌, length, refl, append_assoc, append-nil, sym}
use Rattle.test_lines.specs.Lines.{with_byte, with_bytes, written}

put_byte : (full : Bool) (unwritten : List ℕ) (byte : ℕ) (bytes : List ℕ)
    → cond full unwritten [] ++ ((cond full [] unwritten ++ (byte ∷ [])) ++ bytes) ≡ unwritten ++ (byte ∷ bytes)
put_byte true unwritten byte bytes = refl
put_byte false unwritten byte bytes = append_assoc unwritten (byte ∷ []) bytes

pub written_then_unwritten : (unwritten bytes : List ℕ)
    → written unwritten bytes ++ with_bytes unwritten bytes ≡ unwritten ++ bytes
unfolding written with_bytes
written_then_unwritten unwritten [] = sym (append-nil unwritten)
written_then_unwritten unwritten (byte ∷ bytes) =
    append_assoc _ (written (with_byte unwritten byte) bytes) _
    ∙ ap (λ l. cond (eqb (length unwritten) 4096) unwritten [] ++ l) (written_then_unwritten (with_byte unwritten byte) bytes)
    ∙ put_byte (eqb (length unwritten) 4096) unwritten byte bytes
