use Rattle.std.proofs.Common.{◌≡◌, ◌++◌, take, drop, map}
use Rattle.ev_mailboxes.specs.Posts.{letters_to, one_with}
use Rattle.ev_mailboxes.proofs.posts.send_each.Given as goal

-- the update was sent by the posts so far
abbrev pub invariant-loop-post : goal.invariant-loop-post
invariant-loop-post g l =
    let before = map letters_to l.fn.posts in
    map letters_to l.posts ≡ map (one_with l.own l.update) (take l.post-index before) ++ drop l.post-index before
