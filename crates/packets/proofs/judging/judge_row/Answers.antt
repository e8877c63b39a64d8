-- A row of another form is refused where its parts or its digits are; else its answer is judged.
use Rattle.std.proofs.Common.{◌≡◌, ℕ, List, ◌∷◌, ◌++◌, drop, sym, ap, ◌∙◌, arith}
use Rattle.text.proofs.Cutting.{same_cut}
use Rattle.packets.specs.Rows.{hexed, row_text}
use Rattle.packets.specs.declared.row.Kind.{Kind}
use Rattle.packets.specs.declared.row.Kind.TheVariants.{Four, Six}
use Rattle.packets.proofs.Digits.{hexed_plain}
use Rattle.packets.proofs.judging.judge_row.Goals as goal

pub returns-in_err-parts : goal.returns-in_err-parts
returns-in_err-parts c =
    rw c.from_residual.ensures record { end = omega arith; judges = λ kind bytes told all short e. c.in_err-parts.ensures kind (hexed bytes) told (hexed_plain 44 bytes (omega arith)) e }

pub returns-in_err-bytes : goal.returns-in_err-bytes
returns-in_err-bytes c = rw c.from_residual-in_err-bytes.ensures record {
  end = omega arith;
  judges = λ kind bytes told all short e.
      let p = c.in_ok-parts.ensures in
      let digits = c.in_ok-parts.parts.digits.now in
      let same : hexed bytes ++ (44 ∷ told) ≡ digits ++ (44 ∷ c.in_ok-parts.parts.told.now) = ap (drop 2) (e ∙ sym p.1) in
      c.in_err-bytes.ensures bytes all short (same_cut 44 (hexed bytes) digits told c.in_ok-parts.parts.told.now (hexed_plain 44 bytes (omega arith)) p.0 same).0;
}

-- the row of the bytes that were read
written : (kind other : Kind) (digits told row bytes : List ℕ) → other ≡ kind → hexed bytes ≡ digits → row_text other digits told ≡ row → row_text kind (hexed bytes) told ≡ row
written kind other digits told row bytes k h e = ap (λ (q : List ℕ). row_text kind q told) h ∙ (ap (λ (q : Kind). row_text q digits told) (sym k) ∙ e)

pub returns-in-Four : goal.returns-in-Four
returns-in-Four c =
    let p = c.in_ok-parts.ensures in
    let h = c.in_ok-bytes.ensures in
    let e = c.judge.ensures in
    let told = c.in_ok-parts.parts.told.now in
    record {
      end = e.end;
      judges = record {
        kind = Four;
        bytes = c.in_ok-bytes.bytes.now;
        told = told;
        is = written Four c.in_ok-parts.parts.kind c.in_ok-parts.parts.digits.now told c.args.row.now c.in_ok-bytes.bytes.now c.in-Four.is h.1 p.1;
        answers = e.answers;
        agrees = e.agrees;
      };
    }

pub returns-in-Six : goal.returns-in-Six
returns-in-Six c =
    let p = c.in_ok-parts.ensures in
    let h = c.in_ok-bytes.ensures in
    let e = c.judge-in-Six.ensures in
    let told = c.in_ok-parts.parts.told.now in
    record {
      end = e.end;
      judges = record {
        kind = Six;
        bytes = c.in_ok-bytes.bytes.now;
        told = told;
        is = written Six c.in_ok-parts.parts.kind c.in_ok-parts.parts.digits.now told c.args.row.now c.in_ok-bytes.bytes.now c.in-Six.is h.1 p.1;
        answers = e.answers;
        agrees = e.agrees;
      };
    }
