mod HistoryLemmas
