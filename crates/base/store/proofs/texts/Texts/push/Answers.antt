use Rattle.std.proofs.Common.{◌≡◌, ◌+◌, ◌++◌, length, string_bytes, rules}
use Rattle.store.proofs.TextPlaces.{ends_more, texts_more}
use Rattle.store.proofs.texts.Texts.push.Goals as goal

pub invariant_of-self-else-is_err : goal.invariant_of-self-else-is_err
invariant_of-self-else-is_err c =
    let joined : string_bytes c.push_str.new.self ≡ string_bytes c.self.inside.joined ++ c.args.text.now = search rules in
    let end : c.in-Some.end ≡ length (string_bytes c.self.inside.joined) + length c.args.text.now = search rules in
    rw (joined, c.in_ok-push.ensures.ok) (ends_more (string_bytes c.self.inside.joined) c.self.inside.ends c.args.text.now c.in-Some.end c.self.invariant c.utf8.text end)

pub returns-clause-ok : goal.returns-clause-ok
returns-clause-ok c =
    let joined : string_bytes c.push_str.new.self ≡ string_bytes c.self.inside.joined ++ c.args.text.now = search rules in
    let end : c.in-Some.end ≡ length (string_bytes c.self.inside.joined) + length c.args.text.now = search rules in
    rw (joined, c.in_ok-push.ensures.ok, ← c.self.view_is) (texts_more (string_bytes c.self.inside.joined) c.self.inside.ends c.args.text.now c.in-Some.end c.self.invariant end)
