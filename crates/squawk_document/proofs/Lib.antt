mod KindSets
mod ReadingLemmas
mod Values
mod WrittenValues
mod WrittenTokens
mod WrittenCalls
mod MemberNames
