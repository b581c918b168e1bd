-- An answer is decided by what it means, so that each contract of this crate admits but one. Assumes nothing.
use Prim.Native.Nat.{ℕ, zero, suc}
use mathlib.Core.Path.{◌≡◌, refl, sym, ap, ◌∙◌}
use native.Mathlib.Omega.{arith}
use Rattle.std.specs.Prelude.{Option, Some, None, Result, Ok, Err}
use Rattle.model.specs.Tree.{Mode}
use Rattle.names.specs.Answers.{as_mode}
use Rattle.names.proofs.AnswerLaws.{one_kind}
use Rattle.small_records.specs.Answers.{as_op, found_as, line_number, next_read, as_form}
use Rattle.small_records.specs.Records as def
use Rattle.small_records.specs.Places as def-places
use Rattle.small_records.specs.declared.record.Op.{Op}
use Rattle.small_records.specs.declared.record.Op.TheVariants as op
use Rattle.small_records.specs.declared.record.EditRecord.{EditRecord}
use Rattle.small_records.specs.declared.record.BadLine.{BadLine}
use Rattle.small_records.specs.declared.record.BadLine.TheVariants as line
use Rattle.small_records.specs.declared.form.BadForm.{BadForm}

put_inj : (m n : Mode) → def.put m ≡ def.put n → m ≡ n
put_inj m n e = cc

pub one_op : (a b : Op) → as_op a ≡ as_op b → a ≡ b
one_op (op.Upsert j) (op.Upsert k) e = ap op.Upsert (one_kind j k (put_inj (as_mode j) (as_mode k) e))
one_op (op.Upsert j) op.Remove e = absurd (let z : ◌≡◌ {A = ℕ} 0 1 = cc in omega arith)
one_op (op.Upsert j) op.Leaf e = absurd (let z : ◌≡◌ {A = ℕ} 0 1 = cc in omega arith)
one_op op.Remove (op.Upsert k) e = absurd (let z : ◌≡◌ {A = ℕ} 0 1 = cc in omega arith)
one_op op.Remove op.Remove e = refl
one_op op.Remove op.Leaf e = absurd (let z : ◌≡◌ {A = ℕ} 0 1 = cc in omega arith)
one_op op.Leaf (op.Upsert k) e = absurd (let z : ◌≡◌ {A = ℕ} 0 1 = cc in omega arith)
one_op op.Leaf op.Remove e = absurd (let z : ◌≡◌ {A = ℕ} 0 1 = cc in omega arith)
one_op op.Leaf op.Leaf e = refl

found_inj : (f g : def-places.Found) → def-places.found f ≡ def-places.found g → f ≡ g
found_inj f g e = cc

found_parts : Op → def-places.Found → EditRecord
found_parts o f = record { op = o; path = record { at = f.path.at; len = f.path.len }; id = record { at = f.id.at; len = f.id.len }; next = f.next }

one_found : (a b : EditRecord) → found_as a ≡ found_as b → a ≡ b
unfolding found_parts
one_found a b e = ap (found_parts a.op) e ∙ ap (λ (o : Op). found_parts o (found_as b)) (one_op a.op b.op (ap (λ (f : def-places.Found). f.op) e))

line_of : ℕ → BadLine
line_of zero = line.Op
line_of (suc zero) = line.Path
line_of (suc (suc zero)) = line.Kind
line_of (suc (suc (suc n))) = line.Id

line_back : (a : BadLine) → line_of (line_number a) ≡ a
unfolding line_of
line_back line.Op = refl
line_back line.Path = refl
line_back line.Kind = refl
line_back line.Id = refl

pub one_line : (a b : BadLine) → line_number a ≡ line_number b → a ≡ b
one_line a b e = sym (line_back a) ∙ ap line_of e ∙ line_back b

pub one_next : (a b : Result (Option EditRecord) BadLine) → next_read a ≡ next_read b → a ≡ b
one_next (Ok (Some r)) (Ok (Some r')) e = ap (λ (x : EditRecord). Ok (Some x)) (one_found r r' (found_inj (found_as r) (found_as r') e))
one_next (Ok (Some r)) (Ok None) e = absurd (let z : ◌≡◌ {A = ℕ} 0 1 = cc in omega arith)
one_next (Ok (Some r)) (Err c) e = absurd (let z : ◌≡◌ {A = ℕ} 0 1 = cc in omega arith)
one_next (Ok None) (Ok (Some r)) e = absurd (let z : ◌≡◌ {A = ℕ} 0 1 = cc in omega arith)
one_next (Ok None) (Ok None) e = refl
one_next (Ok None) (Err c) e = absurd (let z : ◌≡◌ {A = ℕ} 0 1 = cc in omega arith)
one_next (Err b) (Ok (Some r)) e = absurd (let z : ◌≡◌ {A = ℕ} 0 1 = cc in omega arith)
one_next (Err b) (Ok None) e = absurd (let z : ◌≡◌ {A = ℕ} 0 1 = cc in omega arith)
one_next (Err b) (Err c) e = ap Err (one_line b c cc)

line_inj : (m n : ℕ) → def.bad_line m ≡ def.bad_line n → m ≡ n
line_inj m n e = cc

pub one_form : (a b : Result ℕ BadForm) → as_form a ≡ as_form b → a ≡ b
one_form (Ok m) (Ok n) e = cc
one_form (Ok m) (Err b) e = absurd (let z : ◌≡◌ {A = ℕ} 0 1 = cc in omega arith)
one_form (Err a) (Ok n) e = absurd (let z : ◌≡◌ {A = ℕ} 0 1 = cc in omega arith)
one_form (Err a) (Err b) e = ap (λ (n : ℕ). Err (record { line = n })) (line_inj a.line b.line e)
