-- What the statements of the public calls promise, taken together: the index. Each statement stands whole in the file that its line names, in the words of specs/ and of the contracts. Assumes nothing.
-- I. Any two answers are equal: of the calls that change a store (`one_answer`, over the list of them in specs/Public.antt), with the cursor of an opening
-- (`one-opening`); of lookups (`one-lookup`); of the request, with the output and where the tree belongs (`one-request`, by `same-request`), also
-- where an answer reads it (`one-next`). What two answers may differ in is listed in docs/EXCEPTIONS.md; no number of the record but the slots' is among it
-- (`same_numbers`), and it shows in no later answer (`spare-unread` and the three like it)
pub use Rattle.theorems.proofs.OneAnswer.{one_answer, one_opening, one_lookup, spare_unread, spare_unread_lookup}
pub use Rattle.editor_write.proofs.SameAnswers.{same_request}
pub use Rattle.theorems.proofs.OneRequest.{one_request, spare_unread_request}
pub use Rattle.theorems.proofs.OneNext.{one_next, spare_unread_next}
pub use Rattle.theorems.proofs.SameCounts.{same_numbers}
-- II. Order, for upserts by the public call, with paths that are valid and apart, over stores that hold an editor with no write open: if one order is answered DONE
-- throughout, so is every other; the editors at the end are equal; and so are the requests of a write that follows, with the same ids answered. The host's requests
-- are the model's (`writes-is`), and the same where it answers and reads by one call (`next-asks`)
pub use Rattle.theorems.proofs.AnyOrder.{any_order, writes_is}
pub use Rattle.theorems.proofs.OneNext.{next_asks}
-- III. Every store that our calls leave is accepted: after one call (`accepted`), after any list of calls (`all-accepted`), and from the making of an editor on, in
-- memory of any content (`made-accepted`, `accepted-from-new`); none of these calls answers 13, and neither does the request that an answer reads (`next-accepted`)
pub use Rattle.theorems.proofs.Accepted.{accepted, made_accepted, all_accepted, accepted_from_new}
pub use Rattle.theorems.proofs.OneNext.{next_accepted}
-- IV. Programs that the statements shut out: a call that refuses everything (`no-refuser`: a script with each of the calls is answered DONE throughout); one that accepts
-- everything (`no-accepter`); an upsert that does nothing (`no-idler`); a lookup that gives one fixed answer (`no-fixed-lookup`); a write that requests one tree and only pretends the rest (`no-pretender`);
-- an invented length with number 11 (`told-length`); an answer that reads the request it answered (`no-repeater`), or that is not made where the next request
-- finds no room (`no-skipper`)
pub use Rattle.theorems.proofs.WrongPrograms.{no_refuser, no_accepter, no_idler, no_fixed_lookup, no_pretender, no_repeater, no_skipper}
pub use Rattle.theorems.proofs.OneRequest.{told_length}
-- V. The write: 45,056 bytes of output always suffice (`output-suffices`), and a write makes at most 64 requests (`at-most-64`)
pub use Rattle.editor_write.proofs.Theorems.{output_suffices, at_most_64}
