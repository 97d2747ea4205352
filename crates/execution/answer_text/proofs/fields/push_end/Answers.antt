use Rattle.std.proofs.Common.{◌≡◌, ap, sym, ◌∙◌, ℕ, nat_lt, ◌==◌, ◌&&◌, Bool, if◌then◌else◌, List, [], ◌∷◌, ◌++◌, length, append_assoc, arith}
use Rattle.csv.specs.Writing.{default_writer, is_blank, row_body}
use Rattle.answer_text.proofs.Records.{blank-record}
use Rattle.answer_text.proofs.fields.push_end.Goals as goal

pub returns : goal.returns
returns c = λ front fields is begun many.
    let quotes : Bool → List ℕ = λ b. if b then 34 ∷ 34 ∷ [] else [] in
    let size : c.len.result ≡ length c.args.text.now.items = omega (arith, c.len.ensures) in
    let body = row_body default_writer fields in
    c.in_ok-push.ensures.items ∙ ap (λ (l : List ℕ). l ++ 10 ∷ []) (c.in_ok-push_blank.ensures ∙ ap (λ (l : List ℕ). l ++ quotes (nat_lt c.args.width 2 && (c.len.result == c.args.start))) is ∙ ap (λ b. (front ++ body) ++ quotes b)
    (ap (λ n. nat_lt c.args.width 2 && (n == c.args.start)) size ∙ ap (λ n. nat_lt n 2 && (length c.args.text.now.items == c.args.start)) (sym many) ∙ ap (λ n. nat_lt (length fields) 2 && (length c.args.text.now.items == n)) (sym begun) ∙ ap (λ (t : List ℕ). nat_lt (length fields) 2 && (length t == length front)) is ∙ blank-record front fields))
    ∙ append_assoc (front ++ body) (quotes (is_blank default_writer fields)) (10 ∷ []) ∙ append_assoc front body (quotes (is_blank default_writer fields) ++ 10 ∷ [])
