-- The letters that a worker sends to the other edges.
use Rattle.std.specs.Prelude.{ℕ, ◌==◌, if◌then◌else◌, List, [], ◌∷◌, ◌++◌, map}
use Rattle.ev_mailboxes.specs.Ends.{sent_by}
use Rattle.ev_mailboxes.specs.declared.edge_message.EdgeMessage.TheVariants.{Record}
use Rattle.ev_mailboxes.specs.declared.edge_message.Letter.{Letter}
use Rattle.ev_mailboxes.specs.declared.edge_message.Letter.TheVariants.{Of}
use Rattle.ev_mailboxes.specs.declared.posts.EdgePost.{EdgePost}
use Rattle.ev_mailboxes.specs.declared.posts.Posts.{Posts}

-- the number of an edge, and the letters that a post has sent to its mailbox
abbrev pub letters_to : {U : Type 0} → EdgePost U → ℕ × List (Letter U)
letters_to post = (post.to, sent_by post.post)

-- the letters that a worker has sent to each edge
abbrev pub sent_to : {U : Type 0} → Posts U → List (ℕ × List (Letter U))
sent_to posts = map letters_to posts.all.items

-- a record more for this edge, unless it is the sender's own
abbrev pub one_with : {U : Type 0} → ℕ → U → ℕ × List (Letter U) → ℕ × List (Letter U)
one_with own u e = if e.0 == own then e else (e.0, e.1 ++ Of (Record u) ∷ [])

-- a record more for each edge but the sender's own
abbrev pub with_record : {U : Type 0} → ℕ → U → List (ℕ × List (Letter U)) → List (ℕ × List (Letter U))
with_record own u sent = map (one_with own u) sent
